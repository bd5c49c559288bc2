-- The rows of documents: where each stands, and which may stand one behind the other.
use Rattle.std.specs.Prelude.{◌≡◌, ℕ, ◌+◌, ◌-◌, ◌<◌, ◌≤◌, not, nat_eq, Bool, List, [], ◌∷◌, length, map, slice_index}
use Rattle.std.specs.List.{All, filter, list_any}
use Rattle.alta_codec.specs.declared.location.TheConstants.{TOP}
use Rattle.alta_codec.specs.Name.{IsName}
use Rattle.alta_content.specs.declared.document.DocRow.{DocRow}

-- the location of the document's last cell
abbrev pub end_of : DocRow → ℕ
end_of row = row.first + row.cells - 1

abbrev pub firsts_of : List DocRow → List ℕ
firsts_of documents = map (λ row. row.first) documents

abbrev pub ends_of : List DocRow → List ℕ
ends_of documents = map end_of documents

-- ---- the rules

-- what a row leaves behind for the next: its number and its end
pub record Before : Type 0 where
  pub number : ℕ
  pub end : ℕ

abbrev pub start : Before
start = record { number = 0; end = 0 }

abbrev pub behind_row : Before → DocRow → Before
behind_row before row = record { number = row.number; end = end_of row }

-- the row may stand behind one that left this
pub record MayFollow (before : Before) (row : DocRow) : Type 0 where
  pub rises : before.number < row.number
  pub number_below : row.number < TOP
  pub starts_behind : before.end < row.first
  pub first_below : row.first < TOP
  pub some_cells : 3 ≤ row.cells
  pub few_cells : row.cells ≤ 262146
  pub end_below : end_of row < TOP
  pub named : IsName row.name

-- rows that may stand one behind the other, behind one that left this
unfoldable pub AreDocumentsBehind : Before → List DocRow → Type 0
AreDocumentsBehind before [] = Unit {0}
AreDocumentsBehind before (row ∷ rows) = MayFollow before row × AreDocumentsBehind (behind_row before row) rows

-- the same from the first on
abbrev pub AreDocuments : List DocRow → Type 0
AreDocuments rows = AreDocumentsBehind start rows

-- ---- places alone

-- a row has a location at least, from 1 to below TOP
pub record IsPlaced (row : DocRow) : Type 0 where
  pub positive : 1 ≤ row.first
  pub some : 1 ≤ row.cells
  pub below : end_of row < TOP

-- the ranges of rows rise without meeting
abbrev pub RowsRise : List DocRow → Type 0
RowsRise [] = Unit {0}
RowsRise (row ∷ more) = IsPlaced row × All (λ r. end_of row < r.first) more × RowsRise more

-- each document begins right behind the end of the one before, so that no location between the first and the last is left out
abbrev pub AreJoined : List DocRow → Type 0
AreJoined documents = (i : ℕ) → i + 1 < length documents → slice_index (firsts_of documents) (i + 1)
    ≡ slice_index (ends_of documents) i + 1

-- ---- rows that are left

-- whether the row's end is one of these
abbrev pub ends_among : List ℕ → DocRow → Bool
ends_among ends row = list_any (λ end. nat_eq end (end_of row)) ends

-- the rows whose end is not one of these
abbrev pub live_rows : List ℕ → List DocRow → List DocRow
live_rows dead rows = filter (λ row. not (ends_among dead row)) rows
