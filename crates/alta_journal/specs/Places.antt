-- Where the halves of the journal stand on a disk.
use Rattle.std.specs.Prelude.{◌≢◌, ℕ, ◌+◌, ◌-◌, ◌<◌, List, length, get_or}
use Rattle.alta_layout.specs.declared.places.TheConstants.{GATE_OPEN, HALF_BYTES}
use Rattle.alta_disk.specs.Parts.{part}

-- the bytes of the half that starts there
unfoldable pub half_at : ℕ → List ℕ → List ℕ
half_at start image = part start HALF_BYTES image

-- a closed gate stands at this place of these bytes
abbrev pub HasClosedGate : ℕ → List ℕ → Type 0
HasClosedGate place bytes = (place < length bytes) × (get_or bytes place 0 ≢ GATE_OPEN)

-- how many bytes the half that starts at `start` has behind the gate at this place
abbrev pub left_behind : ℕ → ℕ → ℕ
left_behind start place = start + HALF_BYTES - (place + 1)
