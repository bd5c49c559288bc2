use Rattle.std.proofs.Common.{◌≡◌, drop, [], ◌∷◌}
use Rattle.alta_model.specs.Phrase.{has_phrase}
use Rattle.alta_machine.specs.Words.{name_test}
use Rattle.alta_model.proofs.atom.has_name.Given as goal

abbrev pub invariant-loop-cell : goal.invariant-loop-cell
invariant-loop-cell l = has_phrase (name_test l.name ∷ []) (drop l.cell-index l.cells) ≡ has_phrase (name_test l.name ∷ []) l.cells
