-- What is read at a place of a stream, or the fault that shows from there on.
use Rattle.std.specs.Prelude.{◌≡◌, ℕ, List, drop, Result, Some, IfOk, IfErr}
use Rattle.alta_postings.specs.declared.fault.StreamFault.{StreamFault}
use Rattle.alta_postings.specs.Deltas.{fault_from}

-- on Ok what was read is so, on Err it is the first fault of the bytes from the place on, behind the location
pub record ReadsFrom {T : Type 0} (s : List ℕ) (at before : ℕ) (IsRead : T → Type 0)
    (result : Result T StreamFault) : Type 0 where
  pub read : IfOk result IsRead
  pub fault : IfErr result (λ fault. fault_from at 0 before (drop at s) ≡ Some fault)
