-- Where the slots of the head stand on a disk.
use Rattle.std.specs.Prelude.{ℕ}
use Rattle.alta_layout.specs.declared.places.TheConstants.{SLOT_BYTES, START_A, START_B}
use Rattle.alta_layout.specs.declared.slot.Slot.{Slot}
use Rattle.alta_layout.specs.declared.slot.Slot.TheVariants.{A, B}

-- where a slot's root starts
abbrev pub slot_start : Slot → ℕ
slot_start A = 0
slot_start B = SLOT_BYTES

-- where a slot's half of the journal starts
abbrev pub half_start : Slot → ℕ
half_start A = START_A
half_start B = START_B

abbrev pub other : Slot → Slot
other A = B
other B = A
