-- A call that answers lines.
use Rattle.std.specs.Prelude.{ℕ, List, Option, Result, OnOk}
use Rattle.alta_console.specs.declared.event.Event.{Event}
use Rattle.alta_disk.specs.Disk.{DiskState}
use Rattle.alta_session.specs.Answering.{CanAnswer}
use Rattle.alta_session.specs.Ending.{Accounts}
use Rattle.alta_session.specs.Fed.{Feeds}
use Rattle.alta_session.specs.declared.session.Session.{Session}
use Rattle.alta_session.specs.declared.status.Status.{Status}

-- It answers all of these lines, and the next may be answered, or it ends with a status that has its cause.
pub record AnswersLines {C T : Type 0} (tells : Type 0) (told : C → Option (List Event)) (left : C → Option (List ℕ))
    (take_faults give_faults : C → ℕ) (console console_now : C) (disk disk_now : DiskState)
    (session session_now : Session) (lines : List (List ℕ)) (result : Result T Status) : Type 0 where
  pub feeds : Feeds tells (told console) (told console_now) disk disk_now session session_now lines result
  pub can : OnOk result (CanAnswer tells disk_now session_now)
  pub accounts : Accounts tells left take_faults give_faults console console_now disk disk_now result
