-- What a snapshot has to show of its documents, for the best of them to be found.
use Rattle.std.specs.Prelude.{◌≡◌, ◌≢◌, ℕ, ◌≤◌, nat_eq, cond, Bool, false, List, [], ◌∷◌, map, length, All, AllPairs}
use Rattle.std.specs.Str.{bytes_eq}
use Rattle.alta_compile.specs.Space.{Placed}
use Rattle.alta_machine.specs.Plans.{Tree}
use Rattle.alta_content.specs.declared.document.DocRow.{DocRow}
use Rattle.alta_machine.specs.declared.document.Document.{Document}
use Rattle.alta_machine.specs.declared.test.Test.{Test}
use Rattle.alta_machine.specs.declared.test.Test.TheVariants.{Is, Begins}
use Rattle.alta_search.specs.Answers.{coming}
use Rattle.alta_search.specs.View.{View, Shows}

-- ---- documents with their cells

-- the cells of the document of a space that begins at this location
abbrev pub cells_from : List Placed → ℕ → List (List (List ℕ))
cells_from [] first = []
cells_from (d ∷ ds) first = cond (nat_eq d.first first) d.cells (cells_from ds first)

-- the document of a row, with its cells in a space
abbrev pub document_of : List Placed → DocRow → Document
document_of space row = record { number = row.number; name = row.name; cells = cells_from space row.first }

abbrev pub number_of : Document → ℕ
number_of d = d.number

-- the document has no more cells than a document may have
abbrev pub IsShort : Placed → Type 0
IsShort d = length d.cells ≤ 262146

-- The snapshot shows a space of documents that are not too long, in which the answers of the plan are these documents; their
-- numbers differ.
pub record AreToRank (plan : Tree) (v : View) (documents : List Document) : Type 0 where
  pub space : List Placed
  pub shows : Shows space v
  pub short : All IsShort space
  pub answers : map (document_of space) (coming space plan v 0) ≡ documents
  pub numbered : AllPairs ◌≢◌ (map number_of documents)

-- ---- tests that are one

abbrev pub same_test : Test → Test → Bool
same_test (Is term) (Is other) = bytes_eq term other
same_test (Is term) (Begins start) = false
same_test (Begins start) (Is term) = false
same_test (Begins start) (Begins other) = bytes_eq start other
