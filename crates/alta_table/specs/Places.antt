-- Where names, streams and summaries stand on the disk, and what is kept of tables.
use Rattle.std.specs.Prelude.{◌≡◌, ◌<◌, ◌≤◌, ◌^◌, ℕ, ◌+◌, ◌-◌, Option, Some, None, List, [], length, take, map, slice_index, slice_index_or}
use Rattle.std.specs.List.{sum_by}
use Rattle.alta_codec.specs.declared.extent.Extent.{Extent}
use Rattle.alta_content.specs.declared.document.DocRow.{DocRow}
use Rattle.alta_content.specs.Names.{HoldsName, name_in}
use Rattle.alta_table.specs.declared.parts.Parts.{Parts}
use Rattle.alta_table.specs.declared.terms.HeldTerms.{HeldTerms}
use Rattle.alta_table.specs.declared.walk.Walk.{Walk}
use Rattle.alta_table.specs.Marks.{IsHeld, StandsBefore, rows_in}
use Rattle.alta_table.specs.Walks.{behind_of, row_of}
use Rattle.alta_table.specs.Documents.{documents_bytes}
use Rattle.alta_table.specs.Terms.{streams_of, summaries_of, data_of}
use Rattle.alta_table.specs.Tables.{KeepRules, Tables, tables_bytes, total_of}

-- the name of a row
abbrev pub name_at : List DocRow → ℕ → List ℕ
name_at rows row = slice_index_or (map (λ d. d.name) rows) row []

-- the place of a document's name: its row ends with it
abbrev pub name_place : Tables → ℕ → ℕ
name_place tables row =
    tables.place + 32 + length (documents_bytes (take (row + 1) tables.documents))
    - length (name_at tables.documents row)

-- the place of a term's stream, behind the tables and the streams and summaries of the rows before
abbrev pub stream_place : Tables → ℕ → ℕ
stream_place tables row = tables.place + length (tables_bytes tables.documents tables.terms)
    + sum_by data_of (take row tables.terms)

-- where the stream and the summary of a row stand
abbrev pub stream_extent : Tables → ℕ → Extent
stream_extent tables row = record { place = stream_place tables row; bytes = slice_index (streams_of tables.terms) row }

abbrev pub summary_extent : Tables → ℕ → Extent
summary_extent tables row = record {
  place = stream_place tables row + slice_index (streams_of tables.terms) row;
  bytes = slice_index (summaries_of tables.terms) row;
}

-- ---- what is kept beside the rows

-- a name ends a row of bytes: it stands in them behind its length, in front of what is left behind the row
pub record EndsRow (bytes name behind : List ℕ) : Type 0 where
  pub fits : length behind + length name < length bytes
  pub holds : HoldsName bytes (length bytes - length behind - length name - 1)
  pub same : name_in bytes (length bytes - length behind - length name - 1) ≡ name

abbrev pub tables_in : Parts → Tables
tables_in p = record { place = p.place; documents = p.documents.value; terms = rows_in p.terms }

-- the rows keep the rules of a segment, which ends on the disk
pub record AreParts (p : Parts) : Type 0 where
  pub held : IsHeld p.terms 0
  pub ends : p.end ≡ p.place + total_of p.documents.value (rows_in p.terms)
  pub keeps : KeepRules (total_of p.documents.value (rows_in p.terms)) p.documents.value (rows_in p.terms)
  pub below : p.end < 2 ^ 64

-- ---- a place at a row

-- a row of the terms of tables
pub record TermAt : Type 0 where
  pub tables : Tables
  pub row : ℕ

-- the row where there is one
abbrev pub row_at : Option TermAt → Option ℕ
row_at None = None
row_at (Some at) = Some at.row

-- a walk has passed a row of the terms
pub record HasPassed (terms : HeldTerms) (row : ℕ) (walk : Walk) : Type 0 where
  pub within : row < length (rows_in terms)
  pub stands : StandsBefore terms (row + 1) (behind_of walk) walk.rest.now
  pub row_is : row_of walk ≡ slice_index_or (rows_in terms) row (row_of walk)
  pub short : walk.len ≤ 129
