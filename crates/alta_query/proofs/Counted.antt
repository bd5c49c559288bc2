-- A text has a test for each word.
use Rattle.std.proofs.Common.{◌≡◌, ℕ, List, length, ◌∙◌, sym}
use Rattle.std.proofs.lemmas.List.{length-map}
use Rattle.unicode_segmentation.specs.Word.{words}
use Rattle.alta_text.specs.Words.{folded_of, words_of}
use Rattle.alta_machine.specs.Words.{tests_of, word_test}

pub words_tests : (text : List ℕ) → length (words text) ≡ length (tests_of text)
unfolding tests_of
words_tests text = sym (length-map (words_of text) word_test ∙ length-map (words text) (λ written. (written, folded_of written)))
