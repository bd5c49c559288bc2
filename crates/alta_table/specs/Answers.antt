-- What a call that opens a part answered. Want of memory is free.
use Rattle.std.specs.Prelude.{◌≡◌, ℕ, Result, Ok, Err}
use Rattle.alta_table.specs.declared.fault.LevelFault.{LevelFault}
use Rattle.alta_table.specs.declared.fault.LevelFault.TheVariants as faults

-- this value, unless memory ran out
abbrev pub IsFound : {X Y : Type 0} → (X → Y) → Result X LevelFault → Y → Type 0
IsFound view (Ok x) y = view x ≡ y
IsFound view (Err faults.Memory) y = Unit {0}
IsFound view (Err (faults.Damaged place)) y = ⊥

-- damaged at this place, unless memory ran out
abbrev pub IsDamaged : {X : Type 0} → Result X LevelFault → ℕ → Type 0
IsDamaged (Ok x) place = ⊥
IsDamaged (Err faults.Memory) place = Unit {0}
IsDamaged (Err (faults.Damaged p)) place = p ≡ place

-- where it answered damage, the place is such
abbrev pub IfDamaged : {X : Type 0} → Result X LevelFault → (ℕ → Type 0) → Type 0
IfDamaged (Ok x) P = Unit {0}
IfDamaged (Err faults.Memory) P = Unit {0}
IfDamaged (Err (faults.Damaged place)) P = P place

abbrev pub Fails : {Y : Type 0} → LevelFault → Result Y ℕ → Type 0
Fails faults.Memory found = Unit {0}
Fails (faults.Damaged place) found = found ≡ Err place

-- it answers what a definition finds: the value, or the place of the damage
abbrev pub Answers : {X Y : Type 0} → (X → Y) → Result X LevelFault → Result Y ℕ → Type 0
Answers view (Ok x) found = found ≡ Ok (view x)
Answers view (Err e) found = Fails e found

-- the same, of a call that takes no memory
abbrev pub AlwaysAnswers : {X Y : Type 0} → (X → Y) → Result X LevelFault → Result Y ℕ → Type 0
AlwaysAnswers view (Ok x) found = found ≡ Ok (view x)
AlwaysAnswers view (Err faults.Memory) found = ⊥
AlwaysAnswers view (Err (faults.Damaged place)) found = found ≡ Err place
