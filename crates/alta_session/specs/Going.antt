-- A run that goes on.
use Rattle.std.specs.Prelude.{◌≡◌, ◌≤◌, ℕ, false, List, Option, length}
use Rattle.alta_console.specs.Lines.{whole, begun}
use Rattle.std.specs.List.{concat}
use Rattle.alta_console.specs.Transcript.{given_in, taken_in, has_ended, Grows, Consumes}
use Rattle.alta_console.specs.declared.event.Event.{Event}
use Rattle.alta_disk.specs.Disk.{DiskState, LeavesOnly}
use Rattle.alta_meaning.specs.Holding.{Holding}
use Rattle.alta_session.specs.Agreement.{AgreesOn, SpeaksOn}
use Rattle.alta_session.specs.Keeping.{clip}
use Rattle.alta_machine.specs.Machine.{Machine, machine_after, replies}
use Rattle.alta_session.specs.Fed.{SpokenThrough}
use Rattle.alta_session.specs.Progress.{StandsAfterSome}
use Rattle.alta_session.specs.Replied.{AreInTime}
use Rattle.alta_session.specs.Run.{AnswersInTime}
use Rattle.alta_session.specs.Spending.{KeepsSettled, KeepsStore, Spends}
use Rattle.alta_session.specs.Tasks.{IsBy, IsWorked, worked_lines}
use Rattle.alta_session.specs.declared.session.Session.{Session}

-- From this machine on every whole line taken so far was answered.
pub record GoingFrom (tells : Type 0) (disk disk_now : DiskState) (session session_now : Session) (run : List Event)
    (m : Machine) : Type 0 where
  pub given_is : given_in run ≡ concat (replies m (whole (taken_in run)))
  pub in_time : AnswersInTime m run
  pub agrees : AgreesOn tells disk_now session_now (machine_after m (whole (taken_in run)))
  pub images : LeavesOnly (StandsAfterSome m (whole (taken_in run))) disk disk_now
  pub works : (held : Holding) → IsBy session disk.content held
      → IsWorked (worked_lines disk.limit m held (whole (taken_in run))) (IsBy session_now disk_now.content)
  pub spends : Spends disk disk_now session m (whole (taken_in run))

-- A run that took this many bytes, and may take more. `kept` is kept of the line that has begun.
pub record Goes (tells : Type 0) (limit : ℕ) (told told_now : Option (List Event)) (left left_now : Option (List ℕ))
    (disk disk_now : DiskState) (session session_now : Session) (kept : List ℕ) (taken : ℕ) : Type 0 where
  pub run : List Event
  pub grew : Grows told told_now run
  pub read : Consumes left left_now (taken_in run)
  pub taken_is : taken ≡ length (taken_in run)
  pub within : length (taken_in run) ≤ limit
  pub kept_is : clip kept ≡ clip (begun (taken_in run))
  pub not_ended : has_ended run ≡ false
  pub texts : List (List ℕ)
  pub each_one : length texts ≡ length (whole (taken_in run))
  pub texts_are : given_in run ≡ concat texts
  pub in_time : AreInTime texts run
  pub same_limit : disk_now.limit ≡ disk.limit
  pub keeps : KeepsStore session session_now (whole (taken_in run))
  pub settled : KeepsSettled tells disk disk_now (whole (taken_in run))
  pub each : (m : Machine) → tells → AgreesOn tells disk session m
      → GoingFrom tells disk disk_now session session_now run m
  pub spoken : (m : Machine) → tells → SpeaksOn tells disk session m
      → SpokenThrough tells disk disk_now session_now (whole (taken_in run)) texts m
