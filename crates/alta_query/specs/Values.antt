-- Which documents have a number, and what queries without values see of numbers.
use Rattle.std.specs.Prelude.{◌≡◌, ◌↔◌, ℕ, ◌^◌, ◌≤◌, ◌<◌, ◌||◌, nat_lt, if◌then◌else◌, List, [], ◌∷◌, ◌++◌, length, map, None, Some, Any}
use Rattle.std.specs.Str.{IsUtf8, bytes_eq}
use Rattle.alta_machine.specs.Cells.{cells_of}
use Rattle.alta_machine.specs.declared.kinds.TheConstants.{WORD, WRITTEN, NAME, START, TITLE_END, DOCUMENT_END, WORD_LIMIT}
use Rattle.alta_machine.specs.Matches.{IsWellFormed, Matches}
use Rattle.alta_machine.specs.Patterns.{numbers_in}
use Rattle.alta_machine.specs.Shape.{value, lone, Shape, Shapes, atom, all, any, negated, none, more}
use Rattle.alta_machine.specs.Numbers.{number_in}
use Rattle.alta_text.specs.Words.{words_of}
use Rattle.unicode_segmentation.specs.Word.{words}

-- the word is a number from the lowest to the highest, and not too long
pub record IsValue (low high : ℕ) (word : List ℕ) : Type 0 where
  pub number : ℕ
  pub spelled : number_in word ≡ Some number
  pub short : length word ≤ WORD_LIMIT
  pub from : low ≤ number
  pub to : number ≤ high

-- some word of the title or the body is such a number
abbrev pub HasNumber : ℕ → ℕ → List ℕ → List ℕ → Type 0
HasNumber low high title body = Any (IsValue low high) (words title ++ words body)

-- a value matches the cells that a name, a title and a body make exactly where these have such a number
abbrev pub FindsNumbers : Type 0
FindsNumbers = (name title body : List ℕ) (low high : ℕ) → IsUtf8 title → IsUtf8 body → high < 2 ^ 32
    → Matches (cells_of name title body) (atom (lone (value low high))) ↔ HasNumber low high title body

-- the cell of a word, without the range terms of a number
abbrev pub plain_cell : List ℕ × List ℕ → List (List ℕ)
plain_cell (written, folded) =
    if nat_lt WORD_LIMIT (length written) || nat_lt WORD_LIMIT (length folded) then []
    else (if bytes_eq written folded then (WORD ∷ folded) ∷ []
    else (WORD ∷ folded) ∷ (WRITTEN ∷ written) ∷ [])

-- the cells of a document, without the range terms of its numbers
abbrev pub plain_cells_of : List ℕ → List ℕ → List ℕ → List (List (List ℕ))
plain_cells_of name title body =
    ((NAME ∷ name) ∷ (START ∷ []) ∷ []) ∷ map plain_cell (words_of title)
    ++ ((TITLE_END ∷ []) ∷ []) ∷ map plain_cell (words_of body)
    ++ ((DOCUMENT_END ∷ []) ∷ []) ∷ []

-- no atom of the query is a value
abbrev mutual
  pub HasNoValue : Shape → Type 0
  HasNoValue (atom a) = numbers_in a ≡ None
  HasNoValue (all qs) = HaveNoValue qs
  HasNoValue (any qs) = HaveNoValue qs
  HasNoValue (negated q) = HasNoValue q

  pub HaveNoValue : Shapes → Type 0
  HaveNoValue none = Unit {0}
  HaveNoValue (more q qs) = HasNoValue q × HaveNoValue qs

-- a query that some text is read as, and that has no value, matches the cells exactly where it matches them without range terms
abbrev pub SeesNoRanges : Type 0
SeesNoRanges = (q : Shape) (name title body : List ℕ) → IsWellFormed q → HasNoValue q
    → Matches (cells_of name title body) q ↔ Matches (plain_cells_of name title body) q
