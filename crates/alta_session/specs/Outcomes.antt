-- How the calls of the program come out, by the status that they end with.
use Rattle.std.specs.Prelude.{◌≡◌, ◌≢◌, ◌⊎◌, ◌<◌, ℕ, List, [], Option, IfSome}
use Rattle.alta_layout.specs.declared.places.TheConstants.{HEAD_BYTES}
use Rattle.alta_codec.specs.Faults.{Rose}
use Rattle.alta_disk.specs.Disk.{DiskState, Stands}
use Rattle.alta_machine.specs.States.{empty_state}
use Rattle.alta_machine.specs.declared.document.State.{State}
use Rattle.alta_meaning.specs.Broken.{IsBrokenAt}
use Rattle.alta_meaning.specs.Standing.{StandsFor}
use Rattle.alta_root.specs.Slots.{HasNoRoot}
use Rattle.alta_session.specs.Run.{KeepsDisk}
use Rattle.alta_session.specs.Status.{EndsInit, EndsOpened, IsUnmade, Completes, Yields}
use Rattle.alta_session.specs.declared.status.Status.{Status}
use Rattle.alta_session.specs.declared.status.Status.TheVariants.{Done, Usage, DiskFault, TakeFault, GiveFault, Damaged, NoRoot, Full, Exists}
use Rattle.alta_store.specs.Calls.{IsNarrow}

-- The making of an index ends with one of four statuses. Where it is done, the disk stands for the empty state; where there is one already,
-- or the disk is too small, the disk holds what it held.
pub record MakesIndex (tells : Type 0) (disk disk_now : DiskState) (status : Status) : Type 0 where
  pub ends : EndsInit status
  pub made : status ≡ Done → Stands tells disk_now (StandsFor empty_state)
  pub exists : tells → status ≡ Exists → ¬ (HasNoRoot disk.content)
  pub found : tells → ¬ (HasNoRoot disk.content) → (status ≡ Exists) ⊎ (status ≡ DiskFault)
  pub too_small : (need gap : ℕ) → status ≡ Full need gap → (need ≡ HEAD_BYTES) × (gap ≡ disk.limit)
      × (disk.limit < HEAD_BYTES)
  pub kept : IsUnmade status → KeepsDisk tells disk disk_now
  pub small : disk.limit < HEAD_BYTES → (status ≡ Exists)
      ⊎ ((status ≡ Full HEAD_BYTES disk.limit) ⊎ (status ≡ DiskFault))

-- A run over a disk without an index, or with a broken one, says so, and leaves console and disk as they were. That yields only to want of
-- memory and to a fault of the disk.
pub record RefusesDisk {C : Type 0} (tells : Type 0) (console console_now : C) (disk disk_now : DiskState)
    (status : Status) : Type 0 where
  pub rooted : tells → HasNoRoot disk.content → (status ≡ NoRoot) ⊎ Yields status
  pub undamaged : (place : ℕ) → tells → IsBrokenAt disk.content place
      → (console_now ≡ console) × KeepsDisk tells disk disk_now × ((status ≡ Damaged place) ⊎ Yields status)
  pub unopened : status ≡ NoRoot → (console_now ≡ console) × KeepsDisk tells disk disk_now

-- How a run ends: with all input read where it is done, with no status of another command, with `Full` only where a place is wanting, and,
-- over a disk that stands for a state, with a status that completes it where no call of console and disk failed.
pub record Finishes {C : Type 0} (tells : Type 0) (left : C → Option (List ℕ)) (take_faults give_faults : C → ℕ)
    (console console_now : C) (disk disk_now : DiskState) (status : Status) : Type 0 where
  pub read_all : status ≡ Done → IfSome (left console_now) (λ bytes. bytes ≡ [])
  pub never : (status ≢ Usage) × (status ≢ Exists)
  pub full : (need gap : ℕ) → tells → status ≡ Full need gap → IsNarrow disk.limit disk_now.content need gap
  pub complete : (s : State) → tells → StandsFor s disk.content
      → ¬ (Rose (take_faults console) (take_faults console_now))
      → ¬ (Rose (give_faults console) (give_faults console_now))
      → ¬ (Rose disk.faults disk_now.faults) → Completes status

-- What a status says of the disk and of failed calls is so, whatever was asked for.
pub record HasReason {C : Type 0} (tells : Type 0) (take_faults give_faults : C → ℕ) (console console_now : C)
    (disk disk_now : DiskState) (status : Status) : Type 0 where
  pub exists : tells → status ≡ Exists → ¬ (HasNoRoot disk.content)
  pub no_root : tells → status ≡ NoRoot → HasNoRoot disk.content
  -- where the content stands for a state, it is opened, and no damage is found
  pub stands : (s : State) → tells → StandsFor s disk.content → EndsOpened status
  pub take_fault : status ≡ TakeFault → Rose (take_faults console) (take_faults console_now)
  pub give_fault : status ≡ GiveFault → Rose (give_faults console) (give_faults console_now)
  pub disk_fault : status ≡ DiskFault → Rose disk.faults disk_now.faults
