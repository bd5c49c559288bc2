use Rattle.std.proofs.Common.{refl}
use Rattle.alta_names.proofs.Fitting.{same_numbers}
use Rattle.alta_opening.proofs.LevelLaws.{reached_none}
use Rattle.alta_opening.proofs.levels.no_levels.Goals as goal

pub returns-clause-reached : goal.returns-clause-reached
returns-clause-reached c = reached_none c.args.root.now c.args.deleted.now _ c.new.ensures.items refl (same_numbers _ _ _ (λ q. refl) c.new-2.ensures)
