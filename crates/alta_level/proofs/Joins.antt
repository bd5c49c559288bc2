-- What answers only finds and first faults also answers each value that there is, and each fault.
use Rattle.std.proofs.Common.{◌≡◌, ℕ}
use Rattle.std.specs.Prelude.{Result, Ok, Err, IfOk}
use Rattle.alta_table.specs.declared.fault.LevelFault.{LevelFault}
use Rattle.alta_table.specs.declared.fault.LevelFault.TheVariants as faults
use Rattle.alta_table.specs.Answers.{IfDamaged, IsDamaged, IsFound}

pub only_of : {X Y : Type 0} (view : X → Y) (P : Y → Type 0) (Q : ℕ → Type 0) (r : Result X LevelFault) → IfOk r (λ x. P (view x)) → IfDamaged r Q
    → ((x y : Y) → P x → P y → x ≡ y) → ((x : Y) (p : ℕ) → P x → Q p → ⊥) → (y : Y) → P y → IsFound view r y
only_of view P Q (Ok x) found first one apart y h = one (view x) y found h
only_of view P Q (Err faults.Memory) found first one apart y h = tt
only_of view P Q (Err (faults.Damaged p)) found first one apart y h = apart y p h first

pub broken_of : {X Y : Type 0} (view : X → Y) (P : Y → Type 0) (Q : ℕ → Type 0) (r : Result X LevelFault) → IfOk r (λ x. P (view x)) → IfDamaged r Q
    → ((p q : ℕ) → Q p → Q q → p ≡ q) → ((x : Y) (p : ℕ) → P x → Q p → ⊥) → (p : ℕ) → Q p → IsDamaged r p
broken_of view P Q (Ok x) found first one apart p h = apart (view x) p found h
broken_of view P Q (Err faults.Memory) found first one apart p h = tt
broken_of view P Q (Err (faults.Damaged q)) found first one apart p h = one q p first h

-- a fault of a part is one of the whole
pub fault_goes : (X Y : Type 0) (e : LevelFault) (P Q : ℕ → Type 0) → ((p : ℕ) → P p → Q p) → IfDamaged {X = X} (Err e) P → IfDamaged {X = Y} (Err e) Q
fault_goes X Y faults.Memory P Q goes h = tt
fault_goes X Y (faults.Damaged p) P Q goes h = goes p h
