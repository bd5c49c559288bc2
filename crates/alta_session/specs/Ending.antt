-- What a call that answers lines leaves of the input and of the counts, and why it ended.
use Rattle.std.specs.Prelude.{◌≡◌, ◌≢◌, ◌≤◌, ℕ, List, [], Option, Result, Err, IfErr, IfSome}
use Rattle.alta_codec.specs.Faults.{Rose}
use Rattle.alta_disk.specs.Disk.{DiskState}
use Rattle.alta_session.specs.Fullness.{IsFull}
use Rattle.alta_session.specs.Status.{EndsLine, EndsRunning}
use Rattle.alta_session.specs.declared.status.Status.{Status}
use Rattle.alta_session.specs.declared.status.Status.TheVariants.{Done, DiskFault, TakeFault, GiveFault, Full}

-- ---- counts and causes

-- The count of the disk's faults has not fallen, and its limit is the same.
pub record KeepsDiskCounts (disk disk_now : DiskState) : Type 0 where
  pub faults : disk.faults ≤ disk_now.faults
  pub limit : disk_now.limit ≡ disk.limit

-- No count of faults has fallen, and the limit of the disk is the same.
pub record KeepsCounts {C : Type 0} (take_faults give_faults : C → ℕ) (console console_now : C)
    (disk disk_now : DiskState) : Type 0 where
  pub takes : take_faults console ≤ take_faults console_now
  pub gives : give_faults console ≤ give_faults console_now
  pub kept : KeepsDiskCounts disk disk_now

-- The status has its cause: a count that rose, or a place that is wanting.
pub record IsCaused {C : Type 0} (tells : Type 0) (give_faults : C → ℕ) (console console_now : C)
    (disk disk_now : DiskState) (status : Status) : Type 0 where
  pub full : (need gap : ℕ) → tells → status ≡ Full need gap → IsFull disk_now need gap
  pub give_fault : status ≡ GiveFault → Rose (give_faults console) (give_faults console_now)
  pub disk_fault : status ≡ DiskFault → Rose disk.faults disk_now.faults

-- ---- of calls

-- Lines that are there were answered: no input was taken, the counts are kept, and what was not answered has its cause.
pub record Accounts {C T : Type 0} (tells : Type 0) (left : C → Option (List ℕ)) (take_faults give_faults : C → ℕ)
    (console console_now : C) (disk disk_now : DiskState) (result : Result T Status) : Type 0 where
  pub ends : IfErr result EndsLine
  pub caused : IfErr result (IsCaused tells give_faults console console_now disk disk_now)
  pub input_kept : left console_now ≡ left console
  pub counts : KeepsCounts take_faults give_faults console console_now disk disk_now

-- The same where no reply is given.
pub record AccountsSilently {T : Type 0} (tells : Type 0) (disk disk_now : DiskState)
    (result : Result T Status) : Type 0 where
  pub ends : IfErr result EndsLine
  pub gives_nothing : IfErr result (λ status. status ≢ GiveFault)
  pub full : (need gap : ℕ) → tells → result ≡ Err (Full need gap) → IsFull disk_now need gap
  pub disk_fault : result ≡ Err DiskFault → Rose disk.faults disk_now.faults
  pub counts : KeepsDiskCounts disk disk_now

-- All lines of the input were answered, or the status has its cause; where it is done, the input is read to its end.
pub record AccountsForInput {C : Type 0} (tells : Type 0) (left : C → Option (List ℕ))
    (take_faults give_faults : C → ℕ) (console console_now : C) (disk disk_now : DiskState)
    (status : Status) : Type 0 where
  pub ends : EndsRunning status
  pub caused : IsCaused tells give_faults console console_now disk disk_now status
  pub take_fault : status ≡ TakeFault → Rose (take_faults console) (take_faults console_now)
  pub read_all : status ≡ Done → IfSome (left console_now) (λ bytes. bytes ≡ [])
  pub counts : KeepsCounts take_faults give_faults console console_now disk disk_now
