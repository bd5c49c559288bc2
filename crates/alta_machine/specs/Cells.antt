-- The cells of a document: the words and marks that stand at its places.
use Rattle.std.specs.Prelude.{ℕ, ◌≤◌, Bool, ◌||◌, nat_lt, nat_eq, if◌then◌else◌, List, [], ◌∷◌, ◌++◌, length, map, Option, Some, None}
use Rattle.std.specs.List.{list_any, starts_with}
use Rattle.std.specs.Str.{bytes_eq}
use Rattle.alta_codec.specs.Order.{Precedes}
use Rattle.alta_machine.specs.Numbers.{number_in}
use Rattle.alta_machine.specs.Terms.{range_terms}
use Rattle.alta_text.specs.Words.{words_of}
use Rattle.alta_machine.specs.declared.cell.Terms.{Terms}
use Rattle.alta_machine.specs.declared.cell.Terms.TheVariants.{Empty, One, Two, Number}
use Rattle.alta_machine.specs.declared.kinds.TheConstants.{WORD, WRITTEN, NAME, START, TITLE_END, DOCUMENT_END, WORD_LIMIT, CELL_LIMIT}

-- the terms of a cell in order
abbrev pub terms_of : Terms → List (List ℕ)
terms_of Empty = []
terms_of (One only) = only ∷ []
terms_of (Two first second) = first ∷ second ∷ []
terms_of (Number folding ranges) = folding ∷ ranges.items

-- each term precedes the next
abbrev pub AreInOrder : List (List ℕ) → Type 0
AreInOrder [] = Unit {0}
AreInOrder (term ∷ []) = Unit {0}
AreInOrder (term ∷ next ∷ terms) = Precedes term next × AreInOrder (next ∷ terms)

-- Terms in their order, and no more than a cell may have.
pub record IsCell (terms : List (List ℕ)) : Type 0 where
  pub ordered : AreInOrder terms
  pub few : length terms ≤ CELL_LIMIT

-- the range terms of a word that is a number, and none of another
abbrev pub numbered : Option ℕ → List (List ℕ)
numbered (Some value) = range_terms value
numbered None = []

-- The cell of a word, as written and folded: empty where either is too long; else the folding, the spelling where it differs, and
-- the range terms of a number, whose folding is its spelling.
abbrev pub word_cell : List ℕ × List ℕ → List (List ℕ)
word_cell (written, folded) =
    if nat_lt WORD_LIMIT (length written) || nat_lt WORD_LIMIT (length folded) then []
    else (if bytes_eq written folded then (WORD ∷ folded) ∷ numbered (number_in written)
    else (WORD ∷ folded) ∷ (WRITTEN ∷ written) ∷ [])

-- the name and the start, a cell for each word of the title, the title's end, a cell for each word of the body, the end
abbrev pub cells_of : List ℕ → List ℕ → List ℕ → List (List (List ℕ))
cells_of name title body =
    ((NAME ∷ name) ∷ (START ∷ []) ∷ []) ∷ map word_cell (words_of title)
    ++ ((TITLE_END ∷ []) ∷ []) ∷ map word_cell (words_of body)
    ++ ((DOCUMENT_END ∷ []) ∷ []) ∷ []

-- the term is one of the cell's
abbrev pub cell_holds : List ℕ → List (List ℕ) → Bool
cell_holds term cell = list_any (λ held. bytes_eq held term) cell

-- a term of the cell begins so
abbrev pub cell_begins : List ℕ → List (List ℕ) → Bool
cell_begins prefix cell = list_any (λ held. starts_with nat_eq held prefix) cell
