-- The cells of documents, read off the lists of a content.
use Rattle.std.specs.Prelude.{ℕ, zero, suc, ◌+◌, nat_eq, List, [], ◌∷◌, map}
use Rattle.std.specs.List.{filter, list_any}
use Rattle.alta_content.specs.TermList.{TermList}
use Rattle.alta_content.specs.declared.document.DocRow.{DocRow}

-- so many locations, one behind the other from the first on
unfoldable pub locations_from : ℕ → ℕ → List ℕ
locations_from first zero = []
locations_from first (suc n) = first ∷ locations_from (first + 1) n

-- the cell at a location: the terms whose list has it, in the order of the lists
abbrev pub cell_at : List TermList → ℕ → List (List ℕ)
cell_at lists location = map (λ l. l.term) (filter (λ l. list_any (nat_eq location) l.locations) lists)

-- the cells of a row's document, which stand at the locations of its range
abbrev pub cells_at : List TermList → DocRow → List (List (List ℕ))
cells_at lists row = map (cell_at lists) (locations_from row.first row.cells)

-- a row with its cells
abbrev pub with_cells : List TermList → DocRow → DocRow × List (List (List ℕ))
with_cells lists row = (row, cells_at lists row)
