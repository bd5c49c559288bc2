-- What calls on disks cost, done or failed, and what they leave.
use Rattle.std.specs.Prelude.{◌≡◌, ℕ, ◌+◌, ◌≤◌, List, Result, Err, OnOk}
use Rattle.alta_codec.specs.Faults.{Rose, HasCause}
use Rattle.alta_disk.specs.Disk.{DiskState, Same, Only, Passes}
use Rattle.alta_disk.specs.declared.fault.LoadFault.{LoadFault}
use Rattle.alta_disk.specs.declared.fault.LoadFault.TheVariants.{Disk as DiskFault}

-- The count of faults does not fall, at most so many bytes were taken, and the limit is the same.
pub record Costs (bytes : ℕ) (old new : DiskState) : Type 0 where
  pub faults : old.faults ≤ new.faults
  pub taken_up : old.taken ≤ new.taken
  pub taken : new.taken ≤ old.taken + bytes
  pub limit : new.limit ≡ old.limit

-- What a call costs, which fails only where the disk did.
pub record Charges {T E : Type 0} (bytes : ℕ) (old new : DiskState) (result : Result T E) : Type 0 where
  pub cause : HasCause old.faults new.faults result
  pub costs : Costs bytes old new

-- Nothing was written.
pub record Reads (tells : Type 0) (bytes : ℕ) (old new : DiskState) : Type 0 where
  pub content : tells → new.content ≡ old.content
  pub images : Passes Same old new
  pub costs : Costs bytes old new

-- Nothing was written, and it answers a fault of the disk only where the disk failed.
pub record Retrieves {X : Type 0} (tells : Type 0) (bytes : ℕ) (old new : DiskState)
    (result : Result X LoadFault) : Type 0 where
  pub reads : Reads tells bytes old new
  pub cause : result ≡ Err DiskFault → Rose old.faults new.faults

-- Each image goes by a step, and after `Ok` a stop leaves the content.
pub record Syncs {T E : Type 0} (bytes : ℕ) (step : List ℕ → List ℕ → Type 0) (old new : DiskState)
    (result : Result T E) : Type 0 where
  pub images : Passes step old new
  pub durable : OnOk result (Only new.content new.images)
  pub charges : Charges bytes old new result
