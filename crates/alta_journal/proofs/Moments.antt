-- The images at each moment of an append.
use Rattle.std.proofs.Common.{◌≡◌, inr, ℕ, ◌+◌, ◌≤◌, List, [], ◌∷◌, ◌++◌, length, sym, ◌∙◌, subst, arith}
use Rattle.alta_layout.specs.declared.places.TheConstants.{GATE_OPEN, HALF_BYTES, HEAD_BYTES}
use Rattle.alta_disk.specs.Disk.{DiskState, Each, After, Holds, Torn, Passes}
use Rattle.alta_disk.proofs.Moments.{passes_as, passes_then}
use Rattle.alta_disk.proofs.PartLaws.{part_torn}
use Rattle.alta_journal.specs.Entry.{MayBeRecorded}
use Rattle.alta_disk.specs.Writes.{holds_torn}
use Rattle.alta_journal.specs.Journal.{Appended, Appends, HasBody, HasBytes}
use Rattle.alta_journal.specs.Places.{HasClosedGate}
use Rattle.alta_journal.specs.Record.{record_of, body_of}
use Rattle.alta_journal.specs.declared.entry.Entry.{Entry}
use Rattle.alta_journal.proofs.Steps.{quiet_step, gate_step, byte_and_more, byte_written, has_body, next_closed, opened, torn_then, torn_wide}

-- bytes behind a gate, and then the gate
module _ (place n : ℕ) (a b : DiskState) (one : Passes (Torn (place + 1) n) a b) where
  pub bodies_outside : Passes (Torn place (1 + n)) a b
  bodies_outside =
      passes_as a b (Torn (place + 1) n) (Torn place (1 + n)) one
      (λ z after. (after.0, after.1, torn_wide (place + 1) n place (1 + n) after.0 z (omega arith) (omega arith) after.2))

  pub gate_outside : (c : DiskState) → Passes (Torn place 1) b c → Passes (Torn place (1 + n)) a c
  gate_outside c two = passes_then a b c (Torn place (1 + n)) (Torn place 1) (Torn place (1 + n)) bodies_outside two (λ z here. here) second
    where
      second : (z : List ℕ) → After b.images (Torn place 1) z → After a.images (Torn place (1 + n)) z
      second z (y, now, torn) =
          let first = one.now y now in (
            first.0,
            first.1,
            torn_then place (1 + n) first.0 y z
                (torn_wide (place + 1) n place (1 + n) first.0 y (omega arith) (omega arith) first.2) (torn_wide place 1 place (1 + n) y z (omega arith) (omega arith) torn),
          )

module _ (version start place : ℕ) (entry : Entry) (sound : MayBeRecorded version entry) (from : start ≤ place) (to : place + 1 + length (body_of entry) ≤ start + HALF_BYTES) (disk : start + HALF_BYTES ≤ HEAD_BYTES)
    (n : ℕ) (fits : place + 1 + n ≤ start + HALF_BYTES) where
  module _ (a b : DiskState) (closed : Each a.images (HasClosedGate place)) (one : Passes (Torn (place + 1) n) a b) where
    pub bodies_pass : Passes (Appends version start place entry) a b
    bodies_pass =
        passes_as a b (Torn (place + 1) n) (Appends version start place entry) one
        (λ z after. (after.0, after.1, quiet_step version start place entry sound from to disk n fits after.0 z (closed after.0 after.1) after.2))

    pub gate_passes : (c : DiskState) → Each b.images (HasBody place entry) → Passes (Torn place 1) b c → Passes (Appends version start place entry) a c
    gate_passes c stands two =
        passes_then a b c (Appends version start place entry) (Torn place 1) (Appends version start place entry) bodies_pass two (λ z here. here) second
      where
        second : (z : List ℕ) → After b.images (Torn place 1) z → After a.images (Appends version start place entry) z
        second z (y, now, torn) =
            let first = one.now y now in
            (first.0, first.1, gate_step version start place entry sound from to disk n fits first.0 y z first.2 (stands y now) torn)

-- The gate's write when it is done, behind it the body and what is written ahead.
module _ (version start place : ℕ) (entry : Entry) (sound : MayBeRecorded version entry) (from : start ≤ place) (to : place + 1 + length (body_of entry) ≤ start + HALF_BYTES) (disk : start + HALF_BYTES ≤ HEAD_BYTES)
    (ahead : List ℕ) (fits : place + 1 + length (body_of entry ++ ahead) ≤ start + HALF_BYTES)
    (d b z : List ℕ) (inside : place + 1 ≤ length d) (written : Holds d (place + 1) (body_of entry ++ ahead) b) (stands : HasBody place entry b) (gate : Holds b place (GATE_OPEN ∷ []) z) where
  bodies : Torn (place + 1) (length (body_of entry ++ ahead)) d b
  bodies = holds_torn d (place + 1) (body_of entry ++ ahead) b inside written

  within : place ≤ length b
  within = omega (arith, bodies.no_shorter)

  torn : Torn place 1 b z
  torn = holds_torn b place (GATE_OPEN ∷ []) z within gate

  pub record_done : Appended version start place entry d z
  record_done = opened version start place entry sound from to disk (length (body_of entry ++ ahead)) fits d b z bodies stands torn (byte_written place GATE_OPEN b z within gate)

  pub record_closed : HasClosedGate (place + length (record_of entry)) z
  record_closed = next_closed version start place entry sound from to disk z (has_body version start place entry sound from to disk (length (body_of entry ++ ahead)) fits d b z bodies stands torn)

  pub record_written : Holds d place (GATE_OPEN ∷ (body_of entry ++ ahead)) z
  record_written = byte_and_more place GATE_OPEN (body_of entry ++ ahead) d b z inside written gate

  -- what is written ahead stands behind the next gate
  pub ahead_stands : (at : ℕ) → at ≡ place + length (body_of entry) → HasBytes (place + 1 + length (body_of entry)) ahead b → HasBytes (at + 1) ahead z
  ahead_stands at is here =
      let next : at + 1 ≡ place + 1 + length (body_of entry) = omega (arith, is) in
      part_torn place 1 (at + 1) (length ahead) b z torn (inr (omega (arith, is))) ∙ subst (λ (k : ℕ). HasBytes k ahead b) (sym next) here
