-- Faults of calls that read levels.
use Rattle.std.proofs.Common.{◌≡◌, ℕ}
use Rattle.std.specs.Prelude.{Result, Ok, Err, IfOk}
use Rattle.alta_disk.specs.Answers.{IfDamaged, IsDamaged, IsFound}
use Rattle.alta_disk.specs.declared.fault.LoadFault.{LoadFault}
use Rattle.alta_disk.specs.declared.fault.LoadFault.TheVariants as faults

-- a place that is one thing is another
pub damaged_goes : {X : Type 0} (r : Result X LoadFault) (P Q : ℕ → Type 0) → ((p : ℕ) → P p → Q p) → IfDamaged r P → IfDamaged r Q
damaged_goes (Ok x) P Q goes h = tt
damaged_goes (Err faults.Disk) P Q goes h = tt
damaged_goes (Err faults.Memory) P Q goes h = tt
damaged_goes (Err (faults.Damaged p)) P Q goes h = goes p h

-- a fault of a part is one of the whole
pub fault_goes : (X Y : Type 0) (e : LoadFault) (P Q : ℕ → Type 0) → ((p : ℕ) → P p → Q p) → IfDamaged {X = X} (Err e) P → IfDamaged {X = Y} (Err e) Q
fault_goes X Y faults.Disk P Q goes h = tt
fault_goes X Y faults.Memory P Q goes h = tt
fault_goes X Y (faults.Damaged p) P Q goes h = goes p h

-- a value that is one thing is another
pub ok_goes : {X : Type 0} (r : Result X LoadFault) (P Q : X → Type 0) → ((x : X) → P x → Q x) → IfOk r P → IfOk r Q
ok_goes (Ok x) P Q goes h = goes x h
ok_goes (Err e) P Q goes h = tt

-- what answers only values and first damages answers each value that there is, and each damage
pub only_of : {X Y : Type 0} (view : X → Y) (P : Y → Type 0) (Q : ℕ → Type 0) (r : Result X LoadFault) → IfOk r (λ x. P (view x)) → IfDamaged r Q
    → ((x y : Y) → P x → P y → x ≡ y) → ((x : Y) (p : ℕ) → P x → Q p → ⊥) → (y : Y) → P y → IsFound view r y
only_of view P Q (Ok x) found first one apart y h = one (view x) y found h
only_of view P Q (Err faults.Disk) found first one apart y h = tt
only_of view P Q (Err faults.Memory) found first one apart y h = tt
only_of view P Q (Err (faults.Damaged p)) found first one apart y h = apart y p h first

pub damaged_of : {X Y : Type 0} (view : X → Y) (P : Y → Type 0) (Q : ℕ → Type 0) (r : Result X LoadFault) → IfOk r (λ x. P (view x)) → IfDamaged r Q
    → ((p q : ℕ) → Q p → Q q → p ≡ q) → ((x : Y) (p : ℕ) → P x → Q p → ⊥) → (p : ℕ) → Q p → IsDamaged r p
damaged_of view P Q (Ok x) found first one apart p h = apart (view x) p found h
damaged_of view P Q (Err faults.Disk) found first one apart p h = tt
damaged_of view P Q (Err faults.Memory) found first one apart p h = tt
damaged_of view P Q (Err (faults.Damaged q)) found first one apart p h = one q p first h
