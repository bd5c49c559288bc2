-- Lines that were answered.
use Rattle.std.specs.Prelude.{◌≡◌, ℕ, List, [], Option, length, Result, OnOk, IfErr}
use Rattle.alta_console.specs.Giving.{Gives}
use Rattle.std.specs.List.{concat}
use Rattle.alta_console.specs.declared.event.Event.{Event}
use Rattle.alta_disk.specs.Disk.{DiskState, LeavesOnly}
use Rattle.alta_meaning.specs.Holding.{Holding}
use Rattle.alta_session.specs.Agreement.{AgreesOn, SpeaksOn}
use Rattle.alta_machine.specs.Machine.{Machine, machine_after, replies}
use Rattle.alta_session.specs.Progress.{SpeaksAfterSome, StandsAfterSome, StopsWithin}
use Rattle.alta_session.specs.Replied.{AreRepliesTo}
use Rattle.alta_session.specs.Spending.{KeepsSettled, KeepsStore, Spends}
use Rattle.alta_session.specs.Tasks.{IsBy, IsWorked, worked_lines}
use Rattle.alta_session.specs.declared.session.Session.{Session}
use Rattle.alta_session.specs.declared.status.Status.{Status}

-- From this machine on the lines were answered, what is held then is what their work makes of what was held before, and at no moment was
-- there an image of another state than after some.
pub record FedFrom (tells : Type 0) (disk disk_now : DiskState) (session session_now : Session) (lines : List (List ℕ))
    (given : List ℕ) (m : Machine) : Type 0 where
  pub given_is : given ≡ concat (replies m lines)
  pub agrees : AgreesOn tells disk_now session_now (machine_after m lines)
  pub images : LeavesOnly (StandsAfterSome m lines) disk disk_now
  pub works : (held : Holding) → IsBy session disk.content held
      → IsWorked (worked_lines disk.limit m held lines) (IsBy session_now disk_now.content)
  pub spends : Spends disk disk_now session m lines

-- The same on a disk that may stand for no state.
pub record SpokenThrough (tells : Type 0) (disk disk_now : DiskState) (session_now : Session)
    (lines texts : List (List ℕ)) (m : Machine) : Type 0 where
  pub replies : AreRepliesTo m lines texts []
  pub agrees : SpeaksOn tells disk_now session_now (machine_after m lines)
  pub images : LeavesOnly (SpeaksAfterSome m lines) disk disk_now

-- Each line has its reply.
pub record Fed (tells : Type 0) (told told_now : Option (List Event)) (disk disk_now : DiskState)
    (session session_now : Session) (lines : List (List ℕ)) : Type 0 where
  pub given : List ℕ
  pub gave : Gives told told_now given
  pub texts : List (List ℕ)
  pub each_one : length texts ≡ length lines
  pub texts_are : given ≡ concat texts
  pub same_limit : disk_now.limit ≡ disk.limit
  pub keeps : KeepsStore session session_now lines
  pub settled : KeepsSettled tells disk disk_now lines
  pub each : (m : Machine) → tells → AgreesOn tells disk session m
      → FedFrom tells disk disk_now session session_now lines given m
  pub spoken : (m : Machine) → tells → SpeaksOn tells disk session m
      → SpokenThrough tells disk disk_now session_now lines texts m

-- A call that answers lines answers all of them, or ends with a status at one of them.
pub record Feeds {T : Type 0} (tells : Type 0) (told told_now : Option (List Event)) (disk disk_now : DiskState)
    (session session_now : Session) (lines : List (List ℕ)) (result : Result T Status) : Type 0 where
  pub ok : OnOk result (Fed tells told told_now disk disk_now session session_now lines)
  pub err : IfErr result (StopsWithin tells told told_now disk disk_now session lines)
