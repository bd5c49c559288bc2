-- What the calls of a session do: one word for those that answer by a step of the machine, and one for those that only look.
use Rattle.std.specs.Prelude.{◌≡◌, ◌⊎◌, ◌≤◌, ℕ, List, Option, Result, Err, IfOk, IfErr, OnOk}
use Rattle.alta_layout.specs.declared.places.TheConstants.{HEAD_BYTES}
use Rattle.alta_codec.specs.Faults.{Rose}
use Rattle.alta_disk.specs.Disk.{DiskState, LeavesOnly}
use Rattle.alta_session.specs.Agreement.{AgreesOn, HasNotFailed}
use Rattle.alta_session.specs.Fullness.{IsFull}
use Rattle.alta_replies.specs.Loading.{KeptHolds}
use Rattle.alta_machine.specs.declared.document.State.{State}
use Rattle.alta_machine.specs.Machine.{Machine, IsRefusal}
use Rattle.alta_session.specs.Tasks.{IsBy, IsWorked, worked_where}
use Rattle.alta_session.specs.declared.session.Session.{Session}
use Rattle.alta_store.specs.Agreement.{Agrees, MaySpeakOf, MaySpeakOfEither}
use Rattle.alta_store.specs.Answers.{IsOutside}
use Rattle.alta_meaning.specs.Holding.{Holding}
use Rattle.alta_meaning.specs.Standing.{StandsForEither}
use Rattle.alta_meaning.specs.Work.{Task}
use Rattle.alta_store.specs.declared.fault.StoreFault.{StoreFault}
use Rattle.alta_store.specs.declared.fault.StoreFault.TheVariants.{Disk, Memory, Damaged, Full}

-- A line may be answered: no call of the session has failed, its store agrees with its disk, what is known of tested lists
-- holds, and the disk may be as long as the smallest index.
pub record CanAnswer (tells : Type 0) (disk : DiskState) (session : Session) : Type 0 where
  pub sound : HasNotFailed session
  pub agrees : Agrees tells disk session.store
  pub known : KeptHolds tells disk session.store session.kept
  pub limit : HEAD_BYTES ≤ disk.limit

-- A call answered by this step from a machine: with its reply, on the machine after it, and at each moment with images of the
-- state before or after it. What is held then is what this task makes of what was held before.
pub record AnswersFrom {D : Type 0} (tells : Type 0) (state : D → DiskState) (disk disk_now : D)
    (session session_now : Session) (result : Result (List ℕ) StoreFault) (m : Machine) (stepped : Machine × List ℕ)
    (task : Option Task) : Type 0 where
  pub reply : IfOk result (λ reply. reply ≡ stepped.1)
  pub agrees : OnOk result (AgreesOn tells (state disk_now) session_now stepped.0)
  pub images : LeavesOnly (StandsForEither m.state stepped.0.state) (state disk) (state disk_now)
  -- a refusal calls nothing, and fails for want of memory alone
  pub refused : IsRefusal stepped.1 → (disk_now ≡ disk) × IfErr result (λ e. e ≡ Memory)
  pub works : (held : Holding) → IsBy session (state disk).content held
      → OnOk result (IsWorked (worked_where (state disk).limit held task) (IsBy session_now (state disk_now).content))
  -- it wants a place only where the task does
  pub full : (held : Holding) (need gap : ℕ) → IsBy session (state disk).content held → result ≡ Err (Full need gap)
      → worked_where (state disk).limit held task ≡ Err (record { need = need; gap = gap })
  -- and on a disk that stands for a state no damage is found
  pub undamaged : (place : ℕ) → result ≡ Err (Damaged place) → ⊥

-- A call on a disk that may speak of a state, also where a list is broken and it stands for none: at each moment an image may speak of the
-- state before or the one after, and once it is done the content may speak of the one after.
pub record SpeaksFrom {T : Type 0} (disk disk_now : DiskState) (result : Result T StoreFault)
    (before later : State) : Type 0 where
  pub speaks : OnOk result (MaySpeakOf later disk_now.content)
  pub images : LeavesOnly (MaySpeakOfEither before later) disk disk_now

-- A call that answers by this step of the machine, and by this task, on whichever machine session and disk agree.
pub record Answers {D : Type 0} (tells : Type 0) (state : D → DiskState) (disk disk_now : D)
    (session session_now : Session) (result : Result (List ℕ) StoreFault) (steps : Machine → Machine × List ℕ)
    (tasks : Machine → Option Task) : Type 0 where
  pub from : (m : Machine) → tells → AgreesOn tells (state disk) session m
      → AnswersFrom tells state disk disk_now session session_now result m (steps m) (tasks m)
  pub spoken : (m : Machine) → tells → MaySpeakOf m.state (state disk).content
      → SpeaksFrom (state disk) (state disk_now) result m.state (steps m).0.state
  pub can : OnOk result (CanAnswer tells (state disk_now) session_now)
  pub unchanged : IfOk result (λ reply. IsRefusal reply → (disk_now ≡ disk) × (session_now ≡ session))
  -- each error comes from its cause
  pub only : IfErr result (λ e. IsOutside e
      ⊎ (((need gap : ℕ) × (e ≡ Full need gap)) ⊎ ((place : ℕ) × (e ≡ Damaged place))))
  pub full : (need gap : ℕ) → tells → result ≡ Err (Full need gap) → IsFull (state disk_now) need gap
  pub still : (place : ℕ) → tells → result ≡ Err (Damaged place) → (state disk_now).content ≡ (state disk).content
  pub unwritten : (need gap : ℕ) → tells → result ≡ Err (Full need gap)
      → (state disk_now).content ≡ (state disk).content
  pub cause : result ≡ Err Disk → Rose (state disk).faults (state disk_now).faults
  pub faults : (state disk).faults ≤ (state disk_now).faults
  pub same_limit : (state disk_now).limit ≡ (state disk).limit
