-- Gaps between extents.
use Rattle.std.specs.Prelude.{◌≡◌, ◌⊎◌, ℕ, ◌+◌, ◌-◌, ◌≤◌, min, nat_le, Bool, ◌&&◌, ◌||◌, if◌then◌else◌, List, [], ◌∷◌, ◌++◌, map, Option, Some, None}
use Rattle.std.specs.List.{All, filter, list_all}
use Rattle.alta_layout.specs.declared.places.TheConstants.{HEAD_BYTES}
use Rattle.alta_codec.specs.Lists.{greatest_of}
use Rattle.alta_codec.specs.declared.extent.Extent.{Extent}
use Rattle.alta_disk.specs.Parts.{Apart}
use Rattle.alta_root.specs.Root.{extents_of}
use Rattle.alta_root.specs.declared.root.Root.{Root}

-- what is taken: the extents of a root, and others
abbrev pub taken_by : Root → List Extent → List Extent
taken_by root extra = extents_of root ++ extra

-- So many bytes at this place lie behind the head, end at the limit or before, and meet no extent.
pub record IsGap (extents : List Extent) (bytes limit at : ℕ) : Type 0 where
  pub behind : HEAD_BYTES ≤ at
  pub before : at + bytes ≤ limit
  pub apart : All (λ (e : Extent). Apart at bytes e.place e.bytes) extents

-- the first of them
pub record IsFirstGap (extents : List Extent) (bytes limit at : ℕ) : Type 0 where
  pub gap : IsGap extents bytes limit at
  pub first : (q : ℕ) → IsGap extents bytes limit q → at ≤ q

-- So many bytes have the longest gaps: there is such a gap, or it is 0, and none is longer.
pub record IsLongestGap (extents : List Extent) (limit bytes : ℕ) : Type 0 where
  pub there : (bytes ≡ 0) ⊎ ((at : ℕ) × IsGap extents bytes limit at)
  pub longest : (more at : ℕ) → IsGap extents more limit at → more ≤ bytes

-- ---- the same as functions

-- where a first gap may begin: behind the head, or behind an extent
abbrev pub starts_beside : List Extent → List ℕ
starts_beside extents = HEAD_BYTES ∷ map (λ (e : Extent). e.place + e.bytes) extents

-- so many bytes at a place do not meet the extent
abbrev pub is_beside : ℕ → ℕ → Extent → Bool
is_beside at bytes extent = nat_le (at + bytes) extent.place || nat_le (extent.place + extent.bytes) at

abbrev pub is_gap : List Extent → ℕ → ℕ → ℕ → Bool
is_gap extents bytes limit at = nat_le HEAD_BYTES at && nat_le (at + bytes) limit
    && list_all (is_beside at bytes) extents

abbrev pub least_with : Option ℕ → ℕ → ℕ
least_with None x = x
least_with (Some y) x = min y x

abbrev pub least : List ℕ → Option ℕ
least [] = None
least (x ∷ xs) = Some (least_with (least xs) x)

-- the first gap of so many bytes
abbrev pub first_gap : List Extent → ℕ → ℕ → Option ℕ
first_gap extents bytes limit = least (filter (is_gap extents bytes limit) (starts_beside extents))

-- of so many bytes at a place, how many lie before the extent; all where it ends at the place or before
abbrev pub room_before : ℕ → ℕ → Extent → ℕ
room_before at bytes extent = if nat_le (extent.place + extent.bytes) at then bytes else min bytes (extent.place - at)

abbrev pub room_beside : ℕ → ℕ → List Extent → ℕ
room_beside at bytes [] = bytes
room_beside at bytes (extent ∷ more) = room_beside at (room_before at bytes extent) more

-- how many bytes at a place meet no extent
abbrev pub room_at : List Extent → ℕ → ℕ → ℕ
room_at extents limit at = if nat_le HEAD_BYTES at then room_beside at (limit - at) extents else 0

-- the most bytes that have a gap
abbrev pub greatest_gap : List Extent → ℕ → ℕ
greatest_gap extents limit = greatest_of (map (room_at extents limit) (starts_beside extents))
