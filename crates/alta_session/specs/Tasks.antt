-- What a line asks of the store, and what its work on levels makes of what a store holds.
use Rattle.std.specs.Prelude.{◌≡◌, ◌&&◌, ℕ, List, [], ◌∷◌, ◌++◌, codes, decimal, if◌then◌else◌, nat_lt, Option, Some, None, option_map, Result, Ok}
use Rattle.alta_codec.specs.Name.{is_name}
use Rattle.alta_disk.specs.Disk.{DiskState, Only}
use Rattle.alta_meaning.specs.Chain.{◌>>=◌}
use Rattle.alta_meaning.specs.Holding.{Holding, IsHeld}
use Rattle.alta_machine.specs.Changes.{number_of}
use Rattle.alta_meaning.specs.Work.{Task, enters, flushes, merges, steps}
use Rattle.alta_meaning.specs.Working.{Full, worked}
use Rattle.alta_journal.specs.declared.entry.Entry.TheVariants.{Delete}
use Rattle.alta_machine.specs.declared.document.State.{State}
use Rattle.alta_machine.specs.Command.{Command, adds, deletes, searches, counts, explains, opens, fetches, closes, ranks, flushes as asks_flush, merges as asks_merge, steps as asks_step, asks_stats, dumps}
use Rattle.alta_machine.specs.Lines.{Reading, asks, refuses, reading_of}
use Rattle.alta_machine.specs.Machine.{Machine, step}
use Rattle.alta_session.specs.declared.session.Session.{Session}
use Rattle.alta_store.specs.Agreement.{Has}
use Rattle.alta_store.specs.Calls.{entry_for}

-- the reply to a document that was put with a number, in place of the one with another or not
abbrev pub reply_to_put : Option ℕ → ℕ → List ℕ
reply_to_put None number = codes "added " ++ decimal number ++ codes "\n"
reply_to_put (Some old) number = codes "replaced " ++ decimal old ++ codes " by " ++ decimal number ++ codes "\n"

-- the entry of a document, where its name can be one and a number is left
unfoldable pub task_of_add : List ℕ → List ℕ → List ℕ → State → Option Task
task_of_add name title body s =
    if is_name name && nat_lt s.next 4294967296
    then Some (enters (entry_for (number_of name s) name title body)) else None

-- the entry that deletes the number of a name, where the name can be one and has a number
unfoldable pub task_of_delete : List ℕ → State → Option Task
task_of_delete name s = if is_name name then option_map (λ number. enters (Delete number)) (number_of name s) else None

abbrev pub task_by : Machine → Command → Option Task
task_by m (adds name title body) = task_of_add name title body m.state
task_by m (deletes name) = task_of_delete name m.state
task_by m asks_flush = Some flushes
task_by m asks_merge = Some merges
task_by m (asks_step n) = Some (steps n)
task_by m (searches text) = None
task_by m (counts text) = None
task_by m (explains text) = None
task_by m (opens text) = None
task_by m (fetches cursor count) = None
task_by m (closes cursor) = None
task_by m (ranks count text) = None
task_by m asks_stats = None
task_by m dumps = None

abbrev pub task_in : Machine → Reading → Option Task
task_in m (asks command) = task_by m command
task_in m (refuses fault) = None

-- what a line asks of the store: an add or a delete that is not refused its entry, a flush, a merge or a step itself, and each other line nothing
unfoldable pub task_of : Machine → List ℕ → Option Task
task_of m line = task_in m (reading_of line)

-- without a task what is held stays
abbrev pub worked_where : ℕ → Holding → Option Task → Result Holding Full
worked_where limit held None = Ok held
worked_where limit held (Some task) = worked limit held task

-- what a line makes of what is held
unfoldable pub worked_line : ℕ → Machine → Holding → List ℕ → Result Holding Full
worked_line limit m held line = worked_where limit held (task_of m line)

-- what lines make of it, one behind the other
abbrev pub worked_lines : ℕ → Machine → Holding → List (List ℕ) → Result Holding Full
worked_lines limit m held [] = Ok held
worked_lines limit m held (line ∷ lines) = worked_line limit m held line
    >>= λ now. worked_lines limit (step m line).0 now lines

-- The work was done, and this holds of what is held then.
pub record IsWorked (work : Result Holding Full) (Here : Holding → Type 0) : Type 0 where
  pub now : Holding
  pub is : work ≡ Ok now
  pub held : Here now

-- the image has what is held: its levels, extents, deleted ends and entries
abbrev pub IsOn : List ℕ → Holding → Type 0
IsOn image held = IsHeld held image

-- and the join that goes on in the session's store is the job
abbrev pub IsBy : Session → List ℕ → Holding → Type 0
IsBy session image held = Has session.store held image

-- and no join goes on, as where an image was opened
pub record IsFirst (image : List ℕ) (held : Holding) : Type 0 where
  pub is : IsHeld held image
  pub none : held.job ≡ None

-- it was done, and nothing is pending
abbrev pub IsDone : Result Holding Full → DiskState → Type 0
IsDone work disk = IsWorked work (IsOn disk.content) × Only disk.content disk.images
