-- A list of locations as bytes: its stream, and the summary of its blocks of 64 locations.
use Rattle.std.specs.Prelude.{◌≡◌, ℕ, ◌+◌, ◌-◌, ◌*◌, ◌/◌, min, nat_le, if◌then◌else◌, List, [], ◌∷◌, ◌++◌, length, map, take, slice_index, flat_map}
use Rattle.std.specs.Int.{w64, to_be_bytes}
use Rattle.std.specs.List.{range_with_len}
use Rattle.alta_codec.specs.Rising.{IsRising}
use Rattle.alta_postings.specs.Deltas.{stream_bytes}
use Rattle.alta_postings.specs.declared.summary.Row.{Row}
use Rattle.alta_postings.specs.Table.{groups_of, last_row, lasts_of}

-- block i of a list: its first and its last location, and the place of its first number in the stream
abbrev pub block_of : List ℕ → ℕ → Row
block_of list i = record {
  first = slice_index list (64 * i);
  last = slice_index list (min (64 * i + 63) (length list - 1));
  place = length (stream_bytes 0 (take (64 * i) list));
}

-- the blocks of a list
abbrev pub blocks_of : List ℕ → List Row
blocks_of list = map (block_of list) (range_with_len 0 ((length list + 63) / 64))

-- the fields of a table: three a row, then the last location of each group of 64 rows
abbrev pub row_fields : Row → List ℕ
row_fields row = row.first ∷ row.last ∷ row.place ∷ []

abbrev pub group_fields : List Row → List ℕ
group_fields rows = map (λ g. slice_index (lasts_of rows) (last_row (length rows) g))
    (range_with_len 0 (groups_of (length rows)))

unfoldable pub table_fields : List Row → List ℕ
table_fields rows = flat_map row_fields rows ++ group_fields rows

-- the summary of a list: nothing for one block or none, else each field in eight bytes, big-endian
unfoldable pub summary_bytes : List ℕ → List ℕ
summary_bytes list = if nat_le (length list) 64 then [] else flat_map (to_be_bytes w64) (table_fields (blocks_of list))

-- the bytes are the stream and the summary of the list, which rises
pub record IsCoded (stream summary list : List ℕ) : Type 0 where
  pub rising : IsRising list
  pub stream_is : stream ≡ stream_bytes 0 list
  pub summary_is : summary ≡ summary_bytes list
