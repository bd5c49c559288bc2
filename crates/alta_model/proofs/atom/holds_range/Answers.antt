use Rattle.std.proofs.Common.{ℕ, List, [], ◌∷◌, ap, ◌∙◌}
use Rattle.alta_model.specs.Phrase.{has_phrase}
use Rattle.alta_machine.specs.Patterns.{range_test}
use Rattle.alta_machine.specs.declared.test.Test.TheVariants.{Is}
use Rattle.alta_model.proofs.Phrases.{phrase_is}
use Rattle.alta_model.proofs.atom.holds_range.Goals as goal

pub returns : goal.returns
returns c =
    phrase_is c.args.cells.now (range_test c.args.range ∷ []) c.has_term.result
    (c.has_term.ensures ∙ ap (λ (term : List ℕ). has_phrase (Is term ∷ []) c.args.cells.now) c.range_term.ensures)
