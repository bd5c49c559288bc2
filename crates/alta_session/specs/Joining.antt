-- What a line does to levels: which it reads to join them, and where it does nothing.
use Rattle.std.specs.Prelude.{◌≡◌, ◌<◌, ℕ, true, List, [], length, Option, Some, None, Result, Err, IfOk, IfErr}
use Rattle.alta_disk.specs.Disk.{DiskState}
use Rattle.alta_meaning.specs.Broken.{IsBrokenAmong}
use Rattle.alta_meaning.specs.Opened.{Opened, IsOpened}
use Rattle.alta_meaning.specs.Work.{Task}
use Rattle.alta_machine.specs.declared.document.State.{State}
use Rattle.alta_machine.specs.Command.{Command, adds, deletes, searches, counts, explains, opens, fetches, closes, ranks, flushes, merges, steps, asks_stats, dumps}
use Rattle.alta_machine.specs.Lines.{Reading, asks, refuses}
use Rattle.alta_machine.specs.Machine.{Machine, SearchesIn, answered, started_at}
use Rattle.alta_session.specs.Spending.{ReadsIn}
use Rattle.alta_session.specs.Tasks.{task_in}
use Rattle.alta_store.specs.Agreement.{HasNoEntry, Knows, levels_of}
use Rattle.alta_store.specs.Calls.{Becomes, is_one, joined_by}
use Rattle.alta_store.specs.declared.fault.StoreFault.{StoreFault}
use Rattle.alta_store.specs.declared.fault.StoreFault.TheVariants.{Memory, Damaged, Full}
use Rattle.alta_store.specs.declared.store.Store.{Store}
use Rattle.alta_table.specs.Tables.{Tables}

-- the levels whose lists a task reads to join them, and none without a task
abbrev pub joins_where : Store → Option Task → List Tables
joins_where store None = []
joins_where store (Some task) = joined_by store task

-- the work of a task on an image that is opened so, by a store, needs so many bytes, and the greatest gap has that many
abbrev pub FindsNoPlace : ℕ → List ℕ → Store → Option Task → Opened → ℕ → ℕ → Type 0
FindsNoPlace limit image store None opened need gap = ⊥
FindsNoPlace limit image store (Some task) opened need gap =
    Becomes limit image store.job task opened (Err (record { need = need; gap = gap }))

-- a flush of an empty journal, a merge of one level at most without deleted ends and entries, or a step over fewer than two levels
abbrev pub IsIdle : Store → Command → Type 0
IsIdle store flushes = HasNoEntry store
IsIdle store merges = is_one store ≡ true
IsIdle store (steps count) = length (levels_of store) < 2
IsIdle store (adds name title body) = ⊥
IsIdle store (deletes name) = ⊥
IsIdle store (searches text) = ⊥
IsIdle store (counts text) = ⊥
IsIdle store (explains text) = ⊥
IsIdle store (opens text) = ⊥
IsIdle store (fetches cursor count) = ⊥
IsIdle store (closes cursor) = ⊥
IsIdle store (ranks count text) = ⊥
IsIdle store asks_stats = ⊥
IsIdle store dumps = ⊥

abbrev pub IdlesIn : Store → Reading → Type 0
IdlesIn store (asks command) = IsIdle store command
IdlesIn store (refuses fault) = ⊥

-- A line that is read so finds damage only in a list of a level that its task joins, unless it searches; it wants a place only where its
-- task's work finds none; and where it does nothing it calls no disk and fails for want of memory alone. Where it may change the index, its
-- reply is that of each machine whose state the store knows.
pub record Works {D : Type 0} (tells : Type 0) (state : D → DiskState) (disk disk_now : D) (store : Store)
    (reading : Reading) (result : Result (List ℕ) StoreFault) : Type 0 where
  pub joins : (SearchesIn reading → ⊥) → (s : State) (place : ℕ) → Knows store s → tells → result ≡ Err (Damaged place)
      → IsBrokenAmong (joins_where store (task_in (started_at s) reading)) (state disk).content place
  pub lacks : (s : State) (o : Opened) (need gap : ℕ) → Knows store s → tells → IsOpened o (state disk).content
      → result ≡ Err (Full need gap)
      → FindsNoPlace (state disk).limit (state disk).content store (task_in (started_at s) reading) o need gap
  pub idle : IdlesIn store reading → (disk_now ≡ disk) × IfErr result (λ e. e ≡ Memory)
  pub replies : ¬ (ReadsIn reading) → (m : Machine) → Knows store m.state
      → IfOk result (λ reply. reply ≡ (answered m reading).1)
