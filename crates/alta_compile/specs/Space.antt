-- Spaces of documents, and the locations in them whose cells meet a test.
use Rattle.std.specs.Prelude.{◌≡◌, ◌↔◌, ℕ, ◌+◌, ◌-◌, ◌<◌, ◌≤◌, cond, List, [], ◌∷◌, ◌++◌, length, Contains}
use Rattle.alta_codec.specs.declared.location.TheConstants.{TOP}
use Rattle.alta_machine.specs.declared.kinds.TheConstants.{DOCUMENT_END}
use Rattle.alta_machine.specs.Patterns.{meets, IsMet}
use Rattle.alta_machine.specs.declared.test.Test.{Test}
use Rattle.alta_machine.specs.declared.test.Test.TheVariants.{Is}

-- a document in a space: the location of its first cell, and its cells
pub record Placed : Type 0 where
  pub first : ℕ
  pub cells : List (List (List ℕ))

-- the location behind a document
abbrev pub past : Placed → ℕ
past d = d.first + length d.cells

-- the location of its last cell
abbrev pub end_of : Placed → ℕ
end_of d = past d - 1

-- the cell where a document ends
abbrev pub document_end : Test
document_end = Is (DOCUMENT_END ∷ [])

-- each document has a cell, and begins at or above `low` and behind the one before it
abbrev pub AreApart : ℕ → List Placed → Type 0
AreApart low [] = low ≤ TOP
AreApart low (d ∷ ds) = (low ≤ d.first) × (d.first < past d) × AreApart (past d) ds

-- The documents' locations rise without meeting, from 1 to below TOP, and exactly the last cell of each is an end.
pub record IsSpace (space : List Placed) : Type 0 where
  pub apart : AreApart 1 space
  pub ended : (d : Placed) → Contains space d → (place : ℕ) → IsMet d.cells document_end place
      ↔ (place + 1 ≡ length d.cells)

-- the locations of the cells that meet the test, the first cell being at this location
unfoldable pub locations : Test → ℕ → List (List (List ℕ)) → List ℕ
locations test at [] = []
locations test at (cell ∷ cells) = cond (meets test cell) (at ∷ locations test (at + 1) cells)
    (locations test (at + 1) cells)

-- the locations of a space whose cells meet the test, in rising order
unfoldable pub list_of : List Placed → Test → List ℕ
list_of [] test = []
list_of (d ∷ ds) test = locations test d.first d.cells ++ list_of ds test

-- the ends of all documents
abbrev pub ends_of : List Placed → List ℕ
ends_of space = list_of space document_end
