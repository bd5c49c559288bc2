-- The bytes of a record.
use Rattle.std.specs.Prelude.{ℕ, List, [], ◌∷◌, ◌++◌}
use Rattle.alta_layout.specs.declared.places.TheConstants.{GATE_CLOSED, GATE_OPEN}
use Rattle.alta_journal.specs.Entry.{measured, payload_of}
use Rattle.alta_journal.specs.declared.entry.Entry.{Entry}

-- a record with its gate open, up to the next gate
abbrev pub record_of : Entry → List ℕ
record_of entry = GATE_OPEN ∷ measured (payload_of entry)

-- what is written behind a record's gate: length and payload, and the next gate, closed
abbrev pub body_of : Entry → List ℕ
body_of entry = measured (payload_of entry) ++ GATE_CLOSED ∷ []

-- a record that is ready to be written: its entry, and the bytes behind its gate
pub record Record : Type 0 where
  pub entry : Entry
  pub bytes : List ℕ
