-- Laws of work on levels that a line asks for.
use Rattle.std.proofs.Common.{◌≡◌, codes, refl}
use Rattle.std.specs.Prelude.{Some}
use Rattle.alta_machine.specs.Lines.{asks}
use Rattle.alta_machine.specs.Machine.{Machine, answered}
use Rattle.alta_session.specs.Tasks.{task_in}
use Rattle.alta_session.specs.Working.{work_command, work_task}
use Rattle.alta_session.specs.declared.working.LevelWork.{LevelWork}
use Rattle.alta_session.specs.declared.working.LevelWork.TheVariants.{Flush, Merge, Step}

-- its task
pub asks_task : (m : Machine) (work : LevelWork) → task_in m (asks (work_command work)) ≡ Some (work_task work)
asks_task m Flush = refl
asks_task m Merge = refl
asks_task m (Step count) = refl

-- what it is answered with
pub says_ok : (m : Machine) (work : LevelWork) → (answered m (asks (work_command work))).1 ≡ codes "ok\n"
says_ok m Flush = refl
says_ok m Merge = refl
says_ok m (Step count) = refl
