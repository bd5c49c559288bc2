-- A coded list: its stream and its summary agree, and a reader stands in it.
use Rattle.std.specs.Prelude.{◌≡◌, ℕ, ◌+◌, ◌-◌, ◌*◌, ◌/◌, ◌<◌, ◌≤◌, min, List, ◌∷◌, length, take, slice_index, slice_index_or}
use Rattle.alta_codec.specs.declared.location.TheConstants.{TOP}
use Rattle.alta_postings.specs.Deltas.{Spells, stream_bytes, decoded_list, IsBehind}
use Rattle.alta_postings.specs.Table.{field_at, IsSummary}
use Rattle.alta_words.specs.declared.standing.Standing.{Standing}

-- row i of the summary is block i of the list
pub record IsRowOf (list summary : List ℕ) (i : ℕ) : Type 0 where
  pub first : field_at summary (3 * i) ≡ slice_index list (64 * i)
  pub last : field_at summary (3 * i + 1) ≡ slice_index list (min (64 * i + 63) (length list - 1))
  pub place : field_at summary (3 * i + 2) ≡ length (stream_bytes 0 (take (64 * i) list))

-- a summary of b rows belongs to the stream; a list of one block has none
pub record IsPosting (stream summary : List ℕ) (b : ℕ) : Type 0 where
  pub spelled : Spells stream (decoded_list stream)
  pub table : IsSummary summary b
  pub short : length (decoded_list stream) ≤ 64 → b ≡ 0
  pub long : 64 < length (decoded_list stream) → b ≡ (length (decoded_list stream) + 63) / 64
  pub rows : (i : ℕ) → i < b → IsRowOf (decoded_list stream) summary i

-- A reader of the list stands at the location with this index, or behind the last one at TOP. It keeps the location before, and
-- the place behind the number of the one at which it stands.
pub record StandsAt (list : List ℕ) (index : ℕ) (s : Standing) : Type 0 where
  pub within : index ≤ length list
  pub at_is : s.at ≡ slice_index_or list index TOP
  pub before_is : s.before ≡ slice_index (0 ∷ list) index
  pub behind : index < length list → IsBehind list (index + 1) s.place s.at

-- On the way to the first location at or above `to`, so many locations were read up to a place. The last one is `at`, and the one
-- before it is below `to`.
pub record IsOnWay (list : List ℕ) (to before place at : ℕ) : Type 0 where
  pub read : ℕ
  pub behind : IsBehind list read place at
  pub low : before < to
  pub before_is : to ≤ at → (0 < read) × (before ≡ slice_index (0 ∷ list) (read - 1))

-- the first location at or above `to` is one of the 64 behind the first i of the list, or the list has none
abbrev pub IsNear : List ℕ → ℕ → ℕ → Type 0
IsNear list i to = to ≤ slice_index_or list (i + 63) TOP

-- `reach` is the last location of the block of a row, or of the list where the summary has no rows
pub record ReachesTo (summary : List ℕ) (b row reach end : ℕ) : Type 0 where
  pub some : 0 < b → (row < b) × (reach ≡ field_at summary (3 * row + 1))
  pub none : b ≡ 0 → reach ≡ end

-- how many locations a list has, its first and its last, 0 where it is empty
pub record HasBounds (list : List ℕ) (count first last : ℕ) : Type 0 where
  pub counted : count ≡ length list
  pub first_is : first ≡ slice_index list 0
  pub last_is : last ≡ slice_index (0 ∷ list) (length list)
