-- A text of one word is a side.
use Rattle.std.proofs.Common.{◌≡◌, ℕ, List, [], ◌∷◌, length, refl, ◌∙◌, false, Some, None, get_or, arith}
use Rattle.alta_machine.specs.Words.{tests_of, first_test}
use Rattle.alta_machine.specs.Shape.{word, words}
use Rattle.alta_machine.specs.Token.{side_of}
use Rattle.alta_machine.specs.declared.test.Test.{Test}
use Rattle.alta_machine.specs.declared.test.Test.TheVariants.{Is}

only_side : (text : List ℕ) (tests : List Test) → length tests ≡ 1 → Some (word text (get_or tests 0 (Is []))) ≡ side_of (words false text tests)
only_side text [] one = absurd (omega (arith, one))
only_side text (test ∷ []) one = refl
only_side text (test ∷ next ∷ tests) one = absurd (omega (arith, one))

no_side : (text : List ℕ) (tests : List Test) → ¬ (length tests ≡ 1) → None ≡ side_of (words false text tests)
no_side text [] many = refl
no_side text (test ∷ []) many = absurd (many refl)
no_side text (test ∷ next ∷ tests) many = refl

pub word_side : (text : List ℕ) (n : ℕ) → n ≡ length (tests_of text) → n ≡ 1 → Some (word text (first_test text)) ≡ side_of (words false text (tests_of text))
word_side text n count one = only_side text (tests_of text) (omega (arith, count, one))

pub phrase_side : (text : List ℕ) (n : ℕ) → n ≡ length (tests_of text) → ¬ (n ≡ 1) → None ≡ side_of (words false text (tests_of text))
phrase_side text n count many = no_side text (tests_of text) (λ e. many (count ∙ e))

pub ruleset laws = (word_side, phrase_side)
