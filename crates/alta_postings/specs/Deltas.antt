-- A list of locations as bytes, and what the bytes are read as.
use Rattle.std.specs.Prelude.{◌≡◌, ℕ, zero, suc, ◌+◌, ◌-◌, ◌*◌, ◌/◌, ◌<◌, ◌≤◌, cond, nat_lt, nat_eq, List, [], ◌∷◌, ◌++◌, length, take, drop, slice_index, Result, Ok, Err, Option, Some, None}
use Rattle.alta_codec.specs.declared.location.TheConstants.{TOP}
use Rattle.alta_codec.specs.declared.number.CodeFault.{CodeFault}
use Rattle.alta_codec.specs.declared.number.CodeFault.TheVariants as code
use Rattle.alta_codec.specs.Rising.{IsRising}
use Rattle.alta_codec.specs.Numbers.{number_bytes, number_from}
use Rattle.alta_postings.specs.declared.fault.StreamCause.{StreamCause}
use Rattle.alta_postings.specs.declared.fault.StreamCause.TheVariants.{Cut, Long, Wide, Zero, Top}
use Rattle.alta_postings.specs.declared.fault.StreamFault.{StreamFault}

-- the differences from the location before, one behind the other
unfoldable pub stream_bytes : ℕ → List ℕ → List ℕ
stream_bytes before [] = []
stream_bytes before (x ∷ xs) = number_bytes (x - before) ++ stream_bytes x xs

-- the bytes spell the list
pub record Spells (bytes list : List ℕ) : Type 0 where
  pub rising : IsRising list
  pub spelled : bytes ≡ stream_bytes 0 list

abbrev pub cause_of : CodeFault → StreamCause
cause_of (code.Cut p) = Cut
cause_of (code.Long p) = Long
cause_of (code.Wide p) = Wide

abbrev pub fault_at : ℕ → StreamCause → StreamFault
fault_at at why = record { place = at; cause = why }

-- what one number shows, read behind the location `before`; `next` is for the bytes behind it
abbrev pub number_fault : ℕ → ℕ → Result (ℕ × ℕ) CodeFault → (ℕ → ℕ → Option StreamFault) → Option StreamFault
number_fault at before (Err f) next = Some (fault_at at (cause_of f))
number_fault at before (Ok r) next =
    cond (nat_eq r.0 0) (Some (fault_at at Zero))
    (cond (nat_lt (before + r.0) TOP) (next r.1 (before + r.0)) (Some (fault_at at Top)))

-- The first number that shows that the bytes spell no list. `at` is the place of the first of these bytes;
-- `skip` of them belong to the number that was just read, and `before` is the location that it gave.
unfoldable pub fault_from : ℕ → ℕ → ℕ → List ℕ → Option StreamFault
fault_from at skip before [] = None
fault_from at (suc skip) before (b ∷ bs) = fault_from (at + 1) skip before bs
fault_from at zero before (b ∷ bs) =
    number_fault at before (number_from 9 at (b ∷ bs)) (λ e y. fault_from (at + 1) (e - (at + 1)) y bs)

abbrev pub number_list : ℕ → Result (ℕ × ℕ) CodeFault → (ℕ → ℕ → List ℕ) → List ℕ
number_list before (Err f) next = []
number_list before (Ok r) next = (before + r.0) ∷ next r.1 (before + r.0)

-- the locations that the bytes spell, likewise
unfoldable pub list_from : ℕ → ℕ → ℕ → List ℕ → List ℕ
list_from at skip before [] = []
list_from at (suc skip) before (b ∷ bs) = list_from (at + 1) skip before bs
list_from at zero before (b ∷ bs) = number_list before (number_from 9 at (b ∷ bs))
    (λ e y. list_from (at + 1) (e - (at + 1)) y bs)

-- the first number of the bytes that shows that they spell no list, if one does
unfoldable pub first_fault : List ℕ → Option StreamFault
first_fault bytes = fault_from 0 0 0 bytes

-- the list that the bytes spell, where they spell one
unfoldable pub decoded_list : List ℕ → List ℕ
decoded_list bytes = list_from 0 0 0 bytes

-- the first i locations of the list are spelled up to this place, and the last of them is this one, 0 where there is none
pub record IsBehind (list : List ℕ) (i place last : ℕ) : Type 0 where
  pub within : i ≤ length list
  pub place_is : place ≡ length (stream_bytes 0 (take i list))
  pub last_is : last ≡ slice_index (0 ∷ list) i

-- behind the first i locations of the list comes this one, which is spelled up to this place
pub record IsNextOf (list : List ℕ) (i last location place : ℕ) : Type 0 where
  pub within : i < length list
  pub is : location ≡ slice_index list i
  pub above : last < location
  pub behind : IsBehind list (i + 1) place location

-- One location y was read at a place of the bytes s, behind the location `before`, up to the place e: faults and
-- locations from there on are those of the rest.
pub record IsStep (s : List ℕ) (at before y e : ℕ) : Type 0 where
  pub fault : fault_from at 0 before (drop at s) ≡ fault_from e 0 y (drop e s)
  pub list : list_from at 0 before (drop at s) ≡ y ∷ list_from e 0 y (drop e s)
  pub low : y < TOP
  pub above : before < y
  pub after : at < e
  pub within : e ≤ length s

-- So many locations were read at a place, likewise: up to 64, and fewer only at the end of the bytes.
pub record IsBlockRead (s : List ℕ) (at before first last count next : ℕ) : Type 0 where
  pub fault : fault_from at 0 before (drop at s) ≡ fault_from next 0 last (drop next s)
  pub list : list_from next 0 last (drop next s) ≡ drop count (list_from at 0 before (drop at s))
  pub counted : count ≤ length (list_from at 0 before (drop at s))
  pub some : 0 < count
  pub few : count ≤ 64
  pub ended : count < 64 → next ≡ length s
  pub first_is : first ≡ slice_index (list_from at 0 before (drop at s)) 0
  pub last_is : last ≡ slice_index (list_from at 0 before (drop at s)) (count - 1)
  pub low : last < TOP
  pub long : at + count ≤ next
  pub within : next ≤ length s

-- the place of the first number of each block, for the first n locations
pub record HasPlaces (list : List ℕ) (n : ℕ) (places : List ℕ) : Type 0 where
  pub counted : length places ≡ (n + 63) / 64
  pub each : (i : ℕ) → i < length places → slice_index places i ≡ length (stream_bytes 0 (take (64 * i) list))
