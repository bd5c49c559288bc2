-- What a replay answers: the entries of a half with their places, and its tail.
use Rattle.std.specs.Prelude.{◌≡◌, ℕ, ◌+◌, ◌-◌, ◌≤◌, List, [], ◌∷◌, length}
use Rattle.alta_journal.specs.Journal.{Begins, EndsAt}
use Rattle.alta_journal.specs.Places.{HasClosedGate}
use Rattle.alta_journal.specs.Record.{record_of}
use Rattle.alta_journal.specs.declared.entry.Entry.{Entry}
use Rattle.alta_journal.specs.declared.placed.Placed.{Placed}

-- these entries, each with the place of its record's gate, the first at this place
abbrev pub placed : ℕ → List Entry → List Placed
placed place [] = []
placed place (entry ∷ entries) = record { place = place; entry = entry }
    ∷ placed (place + length (record_of entry)) entries

-- These are entries with their places, and the half that starts at `start` has them, and at `tail` its first closed gate.
abbrev pub IsReplay : ℕ → ℕ → List Placed → ℕ → List ℕ → Type 0
IsReplay version start found tail image = (entries : List Entry) × (found ≡ placed start entries)
    × EndsAt version start tail entries image

-- These are the entries, with their places, whose records take the first bytes of a half, up to `at`.
abbrev pub IsReading : ℕ → ℕ → List Placed → ℕ → List ℕ → Type 0
IsReading version start found at slot = (entries : List Entry) × (found ≡ placed start entries)
    × Begins version entries at slot

-- These are the entries of a half of these bytes, with their places, and its first closed gate stands at `tail`.
abbrev pub IsWhole : ℕ → ℕ → List Placed → ℕ → List ℕ → Type 0
IsWhole version start found tail slot = (start ≤ tail) × IsReading version start found (tail - start) slot
    × HasClosedGate (tail - start) slot
