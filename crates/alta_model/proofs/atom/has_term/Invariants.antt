use Rattle.std.proofs.Common.{◌≡◌, drop, [], ◌∷◌}
use Rattle.alta_model.specs.Phrase.{has_phrase}
use Rattle.alta_machine.specs.declared.test.Test.TheVariants.{Is}
use Rattle.alta_model.proofs.atom.has_term.Given as goal

abbrev pub invariant-loop-cell : goal.invariant-loop-cell
invariant-loop-cell l = has_phrase (Is l.term ∷ []) (drop l.cell-index l.cells) ≡ has_phrase (Is l.term ∷ []) l.cells
