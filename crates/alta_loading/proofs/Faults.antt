-- Faults of calls that load.
use Rattle.std.proofs.Common.{ℕ}
use Rattle.std.specs.Prelude.{Result, Ok, Err}
use Rattle.alta_disk.specs.Answers.{IfDamaged}
use Rattle.alta_disk.specs.declared.fault.LoadFault.{LoadFault}
use Rattle.alta_disk.specs.declared.fault.LoadFault.TheVariants as faults

-- a place that is one thing is another
pub damaged_goes : {X : Type 0} (r : Result X LoadFault) (P Q : ℕ → Type 0) → ((p : ℕ) → P p → Q p) → IfDamaged r P → IfDamaged r Q
damaged_goes (Ok x) P Q goes h = tt
damaged_goes (Err faults.Disk) P Q goes h = tt
damaged_goes (Err faults.Memory) P Q goes h = tt
damaged_goes (Err (faults.Damaged p)) P Q goes h = goes p h
