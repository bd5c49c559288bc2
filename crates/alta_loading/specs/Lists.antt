-- A list of a level, as it stands on the disk and as it was loaded.
use Rattle.std.specs.Prelude.{ℕ, ◌+◌, ◌<◌, ◌≤◌, List, [], length, slice_index, slice_index_or}
use Rattle.alta_codec.specs.Rising.{IsRising}
use Rattle.alta_disk.specs.Parts.{part}
use Rattle.alta_level.specs.Stored.{Stored, Fits}
use Rattle.alta_table.specs.Places.{stream_place}
use Rattle.alta_table.specs.Tables.{Tables, total_of}
use Rattle.alta_table.specs.Terms.{counts_of, streams_of, summaries_of, terms_of}

-- the segment of the level lies within the image
abbrev pub LiesWithin : Tables → List ℕ → Type 0
LiesWithin level image = level.place + total_of level.documents level.terms ≤ length image

-- ---- on the disk

-- how many bytes the stream of a row has, and its summary
abbrev pub stream_size : Tables → ℕ → ℕ
stream_size level row = slice_index (streams_of level.terms) row

abbrev pub summary_size : Tables → ℕ → ℕ
summary_size level row = slice_index (summaries_of level.terms) row

-- the list of a row, of these bytes
abbrev pub stored_as : Tables → ℕ → List ℕ → List ℕ → Stored
stored_as level row stream summary = record {
  stream = stream;
  stream_place = stream_place level row;
  summary = summary;
  summary_place = stream_place level row + stream_size level row;
  term = slice_index_or (terms_of level.terms) row [];
  count = slice_index (counts_of level.terms) row;
}

-- the list of a row, as it stands on the image
abbrev pub stored_in : Tables → ℕ → List ℕ → Stored
stored_in level row image = stored_as level row (part (stream_place level row) (stream_size level row) image)
    (part (stream_place level row + stream_size level row) (summary_size level row) image)

-- ---- in memory

-- The list is not empty, rises, and keeps what its row and the documents of its level say, whatever the disk tells.
pub record KeepsRow (level : Tables) (row : ℕ) (list : List ℕ) : Type 0 where
  pub some : 0 < length list
  pub rising : IsRising list
  pub fits : Fits level.documents (slice_index_or (terms_of level.terms) row [])
      (slice_index (counts_of level.terms) row) list
