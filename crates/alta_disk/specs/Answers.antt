-- What a call that reads from a disk answered. Faults of the disk and want of memory are free.
use Rattle.std.specs.Prelude.{◌≡◌, ◌⊎◌, ℕ, Result, Ok, Err}
use Rattle.alta_disk.specs.declared.fault.LoadFault.{LoadFault}
use Rattle.alta_disk.specs.declared.fault.LoadFault.TheVariants as faults

-- a fault of the disk, or want of memory
abbrev pub IsOutside : LoadFault → Type 0
IsOutside fault = (fault ≡ faults.Disk) ⊎ (fault ≡ faults.Memory)

-- what was read is not the reason
abbrev pub IsNoDamage : LoadFault → Type 0
IsNoDamage (faults.Damaged place) = ⊥
IsNoDamage faults.Disk = Unit {0}
IsNoDamage faults.Memory = Unit {0}

-- this value, unless the disk failed or memory ran out
abbrev pub IsFound : {X Y : Type 0} → (X → Y) → Result X LoadFault → Y → Type 0
IsFound view (Ok x) y = view x ≡ y
IsFound view (Err faults.Disk) y = Unit {0}
IsFound view (Err faults.Memory) y = Unit {0}
IsFound view (Err (faults.Damaged place)) y = ⊥

-- damaged at this place, unless the disk failed or memory ran out
abbrev pub IsDamaged : {X : Type 0} → Result X LoadFault → ℕ → Type 0
IsDamaged (Ok x) place = ⊥
IsDamaged (Err faults.Disk) place = Unit {0}
IsDamaged (Err faults.Memory) place = Unit {0}
IsDamaged (Err (faults.Damaged p)) place = p ≡ place

-- where it answered damage, the place is such
abbrev pub IfDamaged : {X : Type 0} → Result X LoadFault → (ℕ → Type 0) → Type 0
IfDamaged (Ok x) P = Unit {0}
IfDamaged (Err faults.Disk) P = Unit {0}
IfDamaged (Err faults.Memory) P = Unit {0}
IfDamaged (Err (faults.Damaged place)) P = P place
