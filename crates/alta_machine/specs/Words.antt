-- The words of a query's text, and the tests of cells that they make.
use Rattle.std.specs.Prelude.{ℕ, Bool, false, not, ◌&&◌, ◌==◌, nat_le, if◌then◌else◌, List, [], ◌∷◌, length, map, get_or}
use Rattle.std.specs.List.{list_all}
use Rattle.std.specs.Str.{bytes_eq, chars}
use Rattle.alta_text.specs.Words.{words_of, folded_of}
use Rattle.alta_machine.specs.declared.kinds.TheConstants.{WORD, WRITTEN, NAME, WORD_LIMIT}
use Rattle.alta_machine.specs.declared.test.Test.{Test}
use Rattle.alta_machine.specs.declared.test.Test.TheVariants.{Is, Begins}

-- the word is not too long, as written and as folded
abbrev pub is_short : List ℕ × List ℕ → Bool
is_short (written, folded) = nat_le (length written) WORD_LIMIT && nat_le (length folded) WORD_LIMIT

-- the term of the folding, where the word is written so, else that of the spelling
unfoldable pub word_term : List ℕ × List ℕ → List ℕ
word_term (written, folded) = if bytes_eq written folded then WORD ∷ folded else WRITTEN ∷ written

abbrev pub word_test : List ℕ × List ℕ → Test
word_test word = Is (word_term word)

-- the tests of a text, one for each word
unfoldable pub tests_of : List ℕ → List Test
tests_of text = map word_test (words_of text)

abbrev pub are_short : List (List ℕ × List ℕ) → Bool
are_short words = list_all is_short words

-- some words, none of them too long
unfoldable pub has_words : List ℕ → Bool
has_words text = not (length (words_of text) == 0) && are_short (words_of text)

-- the only word is the whole text, and not too long
abbrev pub is_only : List (List ℕ × List ℕ) → List ℕ → Bool
is_only [] text = false
is_only (word ∷ []) text = bytes_eq word.0 text && is_short word
is_only (word ∷ next ∷ words) text = false

-- one word, which is the whole stem, of two characters at least
unfoldable pub is_stem : List ℕ → Bool
is_stem stem = is_only (words_of stem) stem && nat_le 2 (length (chars stem))

abbrev pub stem_test : List ℕ → Test
stem_test stem = Begins (word_term (stem, folded_of stem))

abbrev pub name_test : List ℕ → Test
name_test name = Is (NAME ∷ name)

-- the test of a text that has one word
abbrev pub first_test : List ℕ → Test
first_test text = get_or (tests_of text) 0 (Is [])
