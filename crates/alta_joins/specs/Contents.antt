-- Levels whose tables were opened, and their contents.
use Rattle.std.specs.Prelude.{◌≡◌, ℕ, ◌+◌, ◌≤◌, List, [], ◌∷◌, length, take, slice_index, slice_index_or, Ok}
use Rattle.alta_content.specs.Lists.{IsContent}
use Rattle.alta_content.specs.TermList.{TermList}
use Rattle.alta_content.specs.declared.content.Content.{Content}
use Rattle.alta_meaning.specs.Levels.{Level}
use Rattle.alta_meaning.specs.Opened.{bytes_at, tables_at, extent_of}
use Rattle.alta_meaning.specs.Standing.{tables_by}
use Rattle.alta_level.specs.Segments.{IsSegment}
use Rattle.alta_postings.specs.Deltas.{decoded_list}
use Rattle.alta_table.specs.Tables.{Tables, total_of}
use Rattle.alta_table.specs.Terms.{counts_of, data_bytes, streams_of, summaries_of, terms_of}
use Rattle.alta_table.specs.declared.term.TermRow.{TermRow}

-- The tables are those that the image has at their place, and it has the whole segment.
pub record StandsOn (image : List ℕ) (level : Tables) : Type 0 where
  pub tables : tables_at (extent_of level) image ≡ Ok level
  pub whole : level.place + total_of level.documents level.terms ≤ length image

-- the row of a term
abbrev pub row_at : Tables → ℕ → TermRow
row_at level i = record {
  term = slice_index_or (terms_of level.terms) i [];
  count = slice_index (counts_of level.terms) i;
  stream = slice_index (streams_of level.terms) i;
  summary = slice_index (summaries_of level.terms) i;
}

-- the list of a row, whose stream begins these bytes
abbrev pub list_at : TermRow → List ℕ → TermList
list_at row bytes = record { term = row.term; locations = decoded_list (take row.stream bytes) }

-- how many bytes the streams and summaries of a level have
abbrev pub data_size : Tables → ℕ
data_size level = data_bytes level.terms

-- ---- contents

-- a level with its content
abbrev pub level_with : Tables → Content → Level
level_with level content = record { extent = extent_of level; content = content }

-- levels with their contents, of each one
abbrev pub levels_with : List Tables → List Content → List Level
levels_with [] contents = []
levels_with (level ∷ levels) [] = []
levels_with (level ∷ levels) (content ∷ contents) = level_with level content ∷ levels_with levels contents

-- The content keeps the rules of a level's content, and has these tables.
pub record IsContentOf (level : Tables) (content : Content) : Type 0 where
  pub stands : IsContent content
  pub tables : tables_by (level_with level content) ≡ level

-- the contents are those of these levels, one of each
abbrev pub AreContentsOf : List Tables → List Content → Type 0
AreContentsOf [] [] = Unit {0}
AreContentsOf [] (content ∷ contents) = ⊥
AreContentsOf (level ∷ levels) [] = ⊥
AreContentsOf (level ∷ levels) (content ∷ contents) = IsContentOf level content × AreContentsOf levels contents

-- the bytes of the level on an image are the segment of the content
abbrev pub IsSegmentOn : List ℕ → Tables → Content → Type 0
IsSegmentOn image level content = IsSegment (bytes_at (extent_of level) image) content

-- the bytes of each level are the segment of its content
abbrev pub AreSegmentsOn : List ℕ → List Tables → List Content → Type 0
AreSegmentsOn image [] [] = Unit {0}
AreSegmentsOn image [] (content ∷ contents) = ⊥
AreSegmentsOn image (level ∷ levels) [] = ⊥
AreSegmentsOn image (level ∷ levels) (content ∷ contents) = IsSegmentOn image level content
    × AreSegmentsOn image levels contents
