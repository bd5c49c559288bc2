-- Where a segment is first damaged: in its tables, else in its lists, in the order of the terms.
-- A number of a stream that is misspelled is damaged at its first byte, and a summary of a wrong length at its end: so the place is
-- inside what is read.
use Rattle.std.specs.Prelude.{◌≡◌, ◌⊎◌, ℕ, ◌+◌, List, [], ◌∷◌, length, take, drop, slice_index_or}
use Rattle.alta_content.specs.declared.document.DocRow.{DocRow}
use Rattle.alta_table.specs.declared.term.TermRow.{TermRow}
use Rattle.alta_table.specs.Tables.{Tables, AreTables, IsDamage, tables_bytes}
use Rattle.alta_table.specs.Terms.{data_of}
use Rattle.alta_content.specs.TermList.{TermList}
use Rattle.alta_level.specs.Stored.{Stored, IsListOf, IsListFault}

-- the row of a number, one of no bytes where there is none
abbrev pub no_row : TermRow
no_row = record { term = []; count = 0; stream = 0; summary = 0 }

abbrev pub row_at : List TermRow → ℕ → TermRow
row_at rows i = slice_index_or rows i no_row

-- the list of a row, whose stream begins at a place, and its summary behind the stream
abbrev pub stored_at : TermRow → List ℕ → ℕ → Stored
stored_at row bytes place = record {
  stream = take row.stream bytes;
  stream_place = place;
  summary = take row.summary (drop row.stream bytes);
  summary_place = place + row.stream;
  term = row.term;
  count = row.count;
}

-- what the bytes have are these lists, one behind the other
unfoldable pub AreListsOf : List DocRow → List TermRow → List ℕ → ℕ → List TermList → Type 0
AreListsOf documents [] bytes place lists = lists ≡ []
AreListsOf documents (row ∷ rows) bytes place [] = ⊥
AreListsOf documents (row ∷ rows) bytes place (l ∷ ls) =
    (l.term ≡ row.term) × IsListOf documents (stored_at row bytes place) l.locations
    × AreListsOf documents rows (drop (data_of row) bytes) (place + data_of row) ls

-- the first fault of the lists: all lists before it are whole
unfoldable pub IsFaultInLists : List DocRow → List TermRow → List ℕ → ℕ → ℕ → Type 0
IsFaultInLists documents [] bytes place p = ⊥
IsFaultInLists documents (row ∷ rows) bytes place p =
    IsListFault documents (stored_at row bytes place) p
    ⊎ (((list : List ℕ) × IsListOf documents (stored_at row bytes place) list)
    × IsFaultInLists documents rows (drop (data_of row) bytes) (place + data_of row) p)

-- the bytes behind the tables
abbrev pub data_in : List ℕ → Tables → List ℕ
data_in bytes tables = drop (length (tables_bytes tables.documents tables.terms)) bytes

abbrev pub data_place : Tables → ℕ
data_place tables = tables.place + length (tables_bytes tables.documents tables.terms)

-- the first damage of a segment that begins at a place of the disk
pub data IsSegmentFault (bytes : List ℕ) (place : ℕ) : ℕ → Type 0 where
  in_tables : (p : ℕ) → IsDamage bytes place (length bytes) p → IsSegmentFault bytes place p
  in_lists : (tables : Tables) (p : ℕ) → AreTables bytes place (length bytes) tables
      → IsFaultInLists tables.documents tables.terms (data_in bytes tables) (data_place tables) p
      → IsSegmentFault bytes place p
