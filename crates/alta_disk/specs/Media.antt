-- The writes and syncs of a disk in memory, and the images that they may leave.
use Rattle.std.proofs.Common.{Vec, Global}
use Rattle.std.specs.Prelude.{Option, Some, None, ◌≡◌, ℕ, ◌+◌, ◌≤◌, Bool, true, ◌&&◌, nat_le, IsTrue, List, [], ◌∷◌, ◌++◌, length, take, drop}
use Rattle.alta_codec.specs.Bytes.{AreBytes}
use Rattle.alta_disk.specs.Disk.{DiskState, Torn}
use Rattle.alta_disk.specs.declared.event.Event.{Event}
use Rattle.alta_disk.specs.declared.event.Event.TheVariants.{Wrote, Tore, Synced}

-- what a read gives, what the last sync made firm, and the ranges written since, the newest first
pub record Media : Type 0 where
  pub content : List ℕ
  pub firm : List ℕ
  pub pending : List (ℕ × ℕ)

-- at the start nothing is pending
abbrev pub start : List ℕ → Media
start first = record { content = first; firm = first; pending = [] }

-- these bytes put over the old ones
abbrev pub put : List ℕ → ℕ → List ℕ → List ℕ
put old at bytes = take at old ++ bytes ++ drop (at + length bytes) old

abbrev pub step : Media → Event → Media
step m (Wrote at bytes) = record {
  content = put m.content at bytes.items;
  firm = m.firm;
  pending = (at, length bytes.items) ∷ m.pending;
}
step m (Tore at n) = record { content = m.content; firm = m.firm; pending = (at, n) ∷ m.pending }
step m Synced = record { content = m.content; firm = m.content; pending = [] }

abbrev pub after : Media → List Event → Media
after m [] = m
after m (e ∷ es) = after (step m e) es

-- each range begins inside the content or at its end
abbrev pub begins_inside : Media → Event → Bool
begins_inside m (Wrote at bytes) = nat_le at (length m.content)
begins_inside m (Tore at n) = nat_le at (length m.content)
begins_inside m Synced = true

abbrev pub is_sound : Media → List Event → Bool
is_sound m [] = true
is_sound m (e ∷ es) = begins_inside m e && is_sound (step m e) es

-- torn, and bytes again
abbrev pub TornBytes : ℕ → ℕ → List ℕ → List ℕ → Type 0
TornBytes at n old new = Torn at n old new × AreBytes new

-- what the firm bytes become where each pending write is torn
abbrev pub IsImage : List ℕ → List (ℕ × ℕ) → List ℕ → Type 0
IsImage firm [] c = c ≡ firm
IsImage firm (range ∷ ranges) c = (d : List ℕ) × IsImage firm ranges d × TornBytes range.0 range.1 d c

abbrev pub MayLeave : Media → List ℕ → Type 0
MayLeave m c = IsImage m.firm m.pending c

-- what a stop behind one of the events from the t-th on may have left
abbrev pub MayHaveLeft : List ℕ → List Event → ℕ → List ℕ → Type 0
MayHaveLeft first events t c = (k : ℕ) × (t ≤ k) × (k ≤ length events)
    × MayLeave (after (start first) (take k events)) c

abbrev pub state_of : List ℕ → List Event → ℕ → ℕ → ℕ → DiskState
state_of first events faults taken limit = record {
  content = (after (start first) events).content;
  images = MayLeave (after (start first) events);
  clock = length events;
  since = MayHaveLeft first events;
  faults = faults;
  taken = taken;
  limit = limit;
}

-- what a read gives: the first bytes until the first write
abbrev pub content_of : Option (Vec ℕ Global) → List ℕ → List ℕ
content_of None first = first
content_of (Some v) first = v.items

-- the ranges of these events, the newest first, and behind them earlier ones
abbrev pub ranges_after : List (ℕ × ℕ) → List Event → List (ℕ × ℕ)
ranges_after earlier [] = earlier
ranges_after earlier (Wrote at bytes ∷ es) = ranges_after ((at, length bytes.items) ∷ earlier) es
ranges_after earlier (Tore at n ∷ es) = ranges_after ((at, n) ∷ earlier) es
ranges_after earlier (Synced ∷ es) = ranges_after earlier es

-- what is kept of a disk in memory agrees with its events, of which so many came up to the last sync
pub record IsKept (first content : List ℕ) (events : List Event) (synced : ℕ) : Type 0 where
  pub seen : content ≡ (after (start first) events).content
  pub sound : IsTrue (is_sound (start first) events)
  pub within : synced ≤ length events
  pub bytes : (k : ℕ) → AreBytes (after (start first) (take k events)).content
  pub firm : (after (start first) events).firm ≡ (after (start first) (take synced events)).content
  pub pending : (after (start first) events).pending ≡ ranges_after [] (drop synced events)
