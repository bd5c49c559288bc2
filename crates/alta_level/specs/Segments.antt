-- A content, and its one spelling as a segment.
use Rattle.std.specs.Prelude.{◌≡◌, ℕ, List, ◌++◌, length, map, flat_map}
use Rattle.alta_postings.specs.Deltas.{stream_bytes}
use Rattle.alta_table.specs.declared.term.TermRow.{TermRow}
use Rattle.alta_content.specs.Lists.{IsContent}
use Rattle.alta_table.specs.Tables.{tables_bytes}
use Rattle.alta_content.specs.declared.content.Content.{Content}
use Rattle.alta_content.specs.TermList.{TermList}
use Rattle.alta_level.specs.Coded.{summary_bytes}

-- ---- the spelling

-- a list as a row of the term table
abbrev pub row_of : TermList → TermRow
row_of l = record {
  term = l.term;
  count = length l.locations;
  stream = length (stream_bytes 0 l.locations);
  summary = length (summary_bytes l.locations);
}

abbrev pub rows_of : List TermList → List TermRow
rows_of lists = map row_of lists

-- its stream, then its summary
abbrev pub list_bytes : TermList → List ℕ
list_bytes l = stream_bytes 0 l.locations ++ summary_bytes l.locations

-- head, documents and terms, then stream and summary of each term
unfoldable pub segment_bytes : Content → List ℕ
segment_bytes content = tables_bytes content.documents (rows_of content.lists) ++ flat_map list_bytes content.lists

-- the bytes are the segment of the content
pub record IsSegment (bytes : List ℕ) (content : Content) : Type 0 where
  pub stands : IsContent content
  pub spelled : bytes ≡ segment_bytes content
