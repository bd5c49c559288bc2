-- Work on levels that a line asks for: its command, and the task of the store.
use Rattle.alta_machine.specs.Command.{Command, flushes as asks_flush, merges as asks_merge, steps as asks_step}
use Rattle.alta_meaning.specs.Work.{Task, flushes, merges, steps}
use Rattle.alta_session.specs.declared.working.LevelWork.{LevelWork}
use Rattle.alta_session.specs.declared.working.LevelWork.TheVariants.{Flush, Merge, Step}

abbrev pub work_command : LevelWork → Command
work_command Flush = asks_flush
work_command Merge = asks_merge
work_command (Step count) = asks_step count

abbrev pub work_task : LevelWork → Task
work_task Flush = flushes
work_task Merge = merges
work_task (Step count) = steps count
