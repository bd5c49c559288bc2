use Rattle.std.proofs.Common.{[], ◌∷◌}
use Rattle.alta_machine.specs.Words.{name_test}
use Rattle.alta_model.proofs.Phrases.{phrase_is}
use Rattle.alta_model.proofs.atom.holds_name.Goals as goal

pub returns : goal.returns
returns c = phrase_is c.args.cells.now (name_test c.args.name.now ∷ []) c.has_name.result c.has_name.ensures
