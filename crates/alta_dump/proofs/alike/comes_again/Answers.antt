use Rattle.std.proofs.Common.{sym, subst, ◌∙◌}
use Rattle.std.specs.List.{All}
use Rattle.alta_dump.specs.Seen.{HasFewFoldings}
use Rattle.alta_dump.proofs.Folds.{cells_have_few}
use Rattle.alta_dump.proofs.alike.comes_again.Goals as goal

pub are_alike-requires-clause-few : goal.are_alike-requires-clause-few
are_alike-requires-clause-few c =
    subst (All HasFewFoldings) (sym (c.deref.ensures.value ∙ c.in-Ok.ensures.value)) (cells_have_few c.args.name.now c.args.title.now c.args.body.now)
