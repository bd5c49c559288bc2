-- Numbers of one or of two bytes, and what was read of a block.
use Rattle.std.specs.Prelude.{◌≡◌, ℕ, ◌+◌, ◌-◌, ◌*◌, ◌<◌, ◌≤◌, List, ◌∷◌, length, drop, take, slice_index}
use Rattle.alta_codec.specs.declared.location.TheConstants.{TOP}
use Rattle.alta_codec.specs.Rising.{IsRising}
use Rattle.alta_postings.specs.Deltas.{fault_from, list_from}

-- At a place stands a number of one or of two bytes, if none is spelled too long: this number, up to this place.
pub record IsShort (s : List ℕ) (at n next : ℕ) : Type 0 where
  pub one : slice_index s at < 128 → (n ≡ slice_index s at) × (next ≡ at + 1)
  pub two : 128 ≤ slice_index s at → (slice_index s (at + 1) < 128)
      × (n ≡ slice_index s at - 128 + 128 * slice_index s (at + 1)) × (next ≡ at + 2)

-- each of the eight bytes at a place is a number of its own, and none is 0
abbrev pub AreGaps : List ℕ → ℕ → Type 0
AreGaps s at = (i : ℕ) → i < 8 → (0 < slice_index s (at + i)) × (slice_index s (at + i) < 128)

-- so many locations were read from a place on
pub record IsReadTo (s : List ℕ) (at before last count next : ℕ) : Type 0 where
  pub fault : fault_from at 0 before (drop at s) ≡ fault_from next 0 last (drop next s)
  pub list : list_from next 0 last (drop next s) ≡ drop count (list_from at 0 before (drop at s))
  pub counted : count ≤ length (list_from at 0 before (drop at s))
  pub last_is : last ≡ slice_index (before ∷ list_from at 0 before (drop at s)) count
  pub low : last < TOP
  pub long : at + count ≤ next
  pub within : next ≤ length s

-- what was read of a block so far, and its locations, which rise above `before`
pub record IsFilled (s : List ℕ) (at before first last next : ℕ) (out : List ℕ) : Type 0 where
  pub read : IsReadTo s at before last (length out) next
  pub some : 0 < length out
  pub first_is : first ≡ slice_index (list_from at 0 before (drop at s)) 0
  pub filled : out ≡ take (length out) (list_from at 0 before (drop at s))
  pub rising : IsRising out
  pub above : before < slice_index out 0
