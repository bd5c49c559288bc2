-- The exit code and the line of each status, and from which faults one comes.
use Rattle.std.specs.Prelude.{◌≡◌, ◌≢◌, ◌⊎◌, ℕ, List, [], ◌++◌, codes, decimal}
use Rattle.alta_store.specs.declared.fault.StoreFault.{StoreFault}
use Rattle.alta_store.specs.declared.fault.StoreFault.TheVariants.{Disk as DiskFailed, Damaged as IsDamaged, NoRoot as NoRootThere, Full as IsFull, Taken, Missing, Numbers}
use Rattle.alta_session.specs.declared.status.Status.{Status}
use Rattle.alta_session.specs.declared.status.Status.TheVariants.{Done, Usage, DiskFault, TakeFault, GiveFault, Memory, Damaged, NoRoot, Full, TooLong, Exists}

abbrev pub code_of : Status → ℕ
code_of Done = 0
code_of Usage = 1
code_of DiskFault = 2
code_of TakeFault = 3
code_of GiveFault = 4
code_of Memory = 5
code_of (Damaged place) = 6
code_of NoRoot = 7
code_of (Full need gap) = 8
code_of TooLong = 9
code_of Exists = 10

abbrev pub line_of : Status → List ℕ
line_of Done = []
line_of Usage = codes "alta: usage: alta_cli PATH init | run | demo N"
line_of DiskFault = codes "alta: disk fault"
line_of TakeFault = codes "alta: input fault"
line_of GiveFault = codes "alta: output fault"
line_of Memory = codes "alta: out of memory"
line_of (Damaged place) = codes "alta: damaged at " ++ decimal place
line_of NoRoot = codes "alta: no index"
line_of (Full need gap) = codes "alta: full, need " ++ (decimal need ++ (codes ", greatest gap " ++ decimal gap))
line_of TooLong = codes "alta: input too long"
line_of Exists = codes "alta: index exists"

-- a status with which answering a line may end a run, where the disk stands for a state
abbrev pub StopsLine : Status → Type 0
StopsLine status = (status ≡ Memory) ⊎ ((status ≡ DiskFault)
    ⊎ ((status ≡ GiveFault) ⊎ ((need gap : ℕ) × (status ≡ Full need gap))))

-- or, where it stands for none, damage
abbrev pub EndsLine : Status → Type 0
EndsLine status = StopsLine status ⊎ ((place : ℕ) × (status ≡ Damaged place))

-- a status with which a run over an open index may end
abbrev pub EndsRunning : Status → Type 0
EndsRunning status = (status ≡ Done) ⊎ ((status ≡ TakeFault) ⊎ ((status ≡ TooLong) ⊎ EndsLine status))

-- a status that a run has where no call of the console and of the disk fails
abbrev pub Completes : Status → Type 0
Completes status = (status ≡ Done) ⊎ ((status ≡ TooLong)
    ⊎ ((status ≡ Memory) ⊎ ((need gap : ℕ) × (status ≡ Full need gap))))

-- neither that there is no index, nor that it is damaged
pub record EndsOpened (status : Status) : Type 0 where
  pub rooted : status ≢ NoRoot
  pub whole : (place : ℕ) → status ≢ Damaged place

-- no index was made: there is one already, or the disk is too small
abbrev pub IsUnmade : Status → Type 0
IsUnmade status = (status ≡ Exists) ⊎ ((need gap : ℕ) × (status ≡ Full need gap))

-- want of memory, or a fault of the disk, which is counted
abbrev pub Yields : Status → Type 0
Yields status = (status ≡ Memory) ⊎ (status ≡ DiskFault)

-- a fault of the store that ends a run: the others refuse a document
abbrev pub EndsRun : StoreFault → Type 0
EndsRun Taken = ⊥
EndsRun Missing = ⊥
EndsRun Numbers = ⊥
EndsRun _ = Unit {0}

-- the status that it ends with
abbrev pub status_for : StoreFault → Status
status_for DiskFailed = DiskFault
status_for (IsDamaged place) = Damaged place
status_for NoRootThere = NoRoot
status_for (IsFull need gap) = Full need gap
status_for _ = Memory

-- a status with which the making of an index may end
abbrev pub EndsInit : Status → Type 0
EndsInit status = (status ≡ Done) ⊎ ((status ≡ DiskFault)
    ⊎ ((status ≡ Exists) ⊎ ((need gap : ℕ) × (status ≡ Full need gap))))
