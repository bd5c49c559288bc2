-- What the bytes of a half say: entries up to a closed gate, or a first record that breaks a rule.
use Rattle.std.specs.Prelude.{◌≡◌, ◌≢◌, ◌⊎◌, ℕ, ◌+◌, ◌-◌, ◌≤◌, ◌<◌, List, [], ◌∷◌, ◌++◌, length, take, get_or, Option, Some, None, Result}
use Rattle.std.specs.List.{All, flat_map}
use Rattle.alta_layout.specs.declared.places.TheConstants.{GATE_OPEN, HEAD_BYTES}
use Rattle.alta_disk.specs.Calls.{Charges}
use Rattle.alta_disk.specs.Disk.{DiskState, Passes, Torn}
use Rattle.alta_disk.specs.Parts.{part}
use Rattle.alta_journal.specs.Entry.{MayBeRecorded}
use Rattle.alta_journal.specs.Places.{half_at, left_behind, HasClosedGate}
use Rattle.alta_journal.specs.Reading.{of_four}
use Rattle.alta_journal.specs.Record.{Record, record_of, body_of}
use Rattle.alta_journal.specs.declared.entry.Entry.{Entry}

-- Under a root of this version the half begins with the records of these entries, one behind the other, and behind them, at `at`, there is a gate.
pub record Begins (version : ℕ) (entries : List Entry) (at : ℕ) (slot : List ℕ) : Type 0 where
  pub records : take at slot ≡ flat_map record_of entries
  pub sound : All (MayBeRecorded version) entries
  pub gate : at < length slot

-- The half that starts at `start` has these entries, and at `place` its first closed gate.
pub record EndsAt (version start place : ℕ) (entries : List Entry) (image : List ℕ) : Type 0 where
  pub starts : start ≤ place
  pub begins : Begins version entries (place - start) (half_at start image)
  pub closed : HasClosedGate (place - start) (half_at start image)
  pub whole : HEAD_BYTES ≤ length image

-- The half that starts at `start` has the entries that it had, and behind them the new one.
abbrev pub Appended : ℕ → ℕ → ℕ → Entry → List ℕ → List ℕ → Type 0
Appended version start place entry old new =
    (entries : List Entry) → EndsAt version start place entries old
    → EndsAt version start (place + length (record_of entry)) (entries ++ entry ∷ []) new

-- What an append may leave at any moment: the entries that were there, with the new one or without, and each byte outside
-- of what the half has from the gate on.
pub record Appends (version start place : ℕ) (entry : Entry) (old new : List ℕ) : Type 0 where
  pub outside : Torn place (1 + left_behind start place) old new
  pub entries : (entries : List Entry) → EndsAt version start place entries old
      → EndsAt version start place entries new
      ⊎ EndsAt version start (place + length (record_of entry)) (entries ++ entry ∷ []) new

-- these bytes stand at this place
abbrev pub HasBytes : ℕ → List ℕ → List ℕ → Type 0
HasBytes place bytes image = part place (length bytes) image ≡ bytes

-- the body of this entry's record stands behind the gate at this place
abbrev pub HasBody : ℕ → Entry → List ℕ → Type 0
HasBody place entry image = HasBytes (place + 1) (body_of entry) image

-- what is written behind a closed gate for the record to come, where there is one
abbrev pub bytes_ahead : Option Record → List ℕ
bytes_ahead None = []
bytes_ahead (Some ready) = body_of ready.entry

-- it stands behind the gate at this place
abbrev pub StandsAhead : ℕ → Option Record → List ℕ → Type 0
StandsAhead place ahead image = HasBytes (place + 1) (bytes_ahead ahead) image

-- Bytes are written from a place on: a stop leaves others there alone.
pub record Puts {T E : Type 0} (at count : ℕ) (old new : DiskState) (result : Result T E) : Type 0 where
  pub images : Passes (Torn at count) old new
  pub charges : Charges 0 old new result

-- The length of the record whose gate stands at `at` leaves no room in the half for the next gate.
abbrev pub LeavesNoRoom : ℕ → List ℕ → Type 0
LeavesNoRoom at slot = length slot ≤ at + 5 + of_four (part (at + 1) 4 slot)

-- No record of a sound entry stands at `at`.
abbrev pub HasNoRecord : ℕ → ℕ → List ℕ → Type 0
HasNoRecord version at slot = (entry : Entry) → MayBeRecorded version entry
    → part at (length (record_of entry)) slot ≢ record_of entry

-- The record whose gate stands at `at` breaks a rule at this place: at its length, where that leaves no room, and else
-- at its payload.
abbrev pub BreaksAt : ℕ → ℕ → ℕ → List ℕ → Type 0
BreaksAt version at place slot =
    (LeavesNoRoom at slot × (place ≡ at + 1))
    ⊎ ((LeavesNoRoom at slot → ⊥) × HasNoRecord version at slot × (place ≡ at + 5))

-- Behind sound records stands an open gate, and the record there breaks a rule at this place of the half.
pub record HasBrokenRecord (version place : ℕ) (slot : List ℕ) : Type 0 where
  pub at : ℕ
  pub entries : List Entry
  pub begins : Begins version entries at slot
  pub is_open : get_or slot at 0 ≡ GATE_OPEN
  pub breaks : BreaksAt version at place slot

-- The half that starts at `start` has a first record that breaks a rule, at `place`.
pub record HasBrokenHalf (version start place : ℕ) (image : List ℕ) : Type 0 where
  pub starts : start ≤ place
  pub damaged : HasBrokenRecord version (place - start) (half_at start image)
  pub whole : HEAD_BYTES ≤ length image
