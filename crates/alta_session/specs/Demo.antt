-- A demo: an index is made, lines are answered without giving their replies, and then others whose replies are given.
use Rattle.std.specs.Prelude.{◌≡◌, ◌⊎◌, ◌<◌, ◌≤◌, ℕ, List, [], ◌∷◌, ◌++◌, Option, None, Result, length, take, drop, codes, decimal}
use Rattle.alta_layout.specs.declared.places.TheConstants.{HEAD_BYTES}
use Rattle.alta_console.specs.Giving.{Gives}
use Rattle.std.specs.List.{concat}
use Rattle.alta_console.specs.Replies.{IsPrefix}
use Rattle.alta_console.specs.declared.event.Event.{Event}
use Rattle.alta_disk.specs.Disk.{DiskState, Stands}
use Rattle.alta_meaning.specs.Holding.{Holding}
use Rattle.alta_meaning.specs.Standing.{StandsFor}
use Rattle.alta_machine.specs.States.{empty_state}
use Rattle.alta_meaning.specs.Switching.{empty_held}
use Rattle.alta_root.specs.Slots.{HasNoRoot}
use Rattle.alta_session.specs.Fed.{Fed, Feeds}
use Rattle.alta_session.specs.Fullness.{Overflows, IsInterrupted, IsFull}
use Rattle.alta_machine.specs.Machine.{Machine, started_at, machine_after, replies}
use Rattle.alta_session.specs.Progress.{StopsWithin}
use Rattle.alta_session.specs.Run.{KeepsDisk}
use Rattle.alta_session.specs.Status.{EndsInit, EndsLine, EndsOpened, IsUnmade}
use Rattle.alta_session.specs.Tasks.{IsDone, worked_lines}
use Rattle.alta_session.specs.declared.session.Session.{Session}
use Rattle.alta_session.specs.declared.status.Status.{Status}
use Rattle.alta_session.specs.declared.status.Status.TheVariants.{Done, DiskFault, NoRoot, Full, Exists}

-- The words ask for a demo over so many documents.
pub record AsksDemo (words : List (List ℕ)) (n : ℕ) : Type 0 where
  pub words_are : words ≡ codes "demo" ∷ decimal n ∷ []
  pub some : 1 ≤ n
  pub most : n ≤ 100000

-- ---- lines whose replies are not given

-- They are answered as to a console that tells nothing.
abbrev pub Obeyed : Type 0 → DiskState → DiskState → Session → Session → List (List ℕ) → Type 0
Obeyed tells disk disk_now session session_now lines = Fed tells None None disk disk_now session session_now lines

-- and up to one that was not
abbrev pub StopsObeying : Type 0 → DiskState → DiskState → Session → List (List ℕ) → Status → Type 0
StopsObeying tells disk disk_now session lines status = StopsWithin tells None None disk disk_now session lines status

-- a call that does one or the other
abbrev pub Obeys : {T : Type 0} → Type 0 → DiskState → DiskState → Session → Session → List (List ℕ)
    → Result T Status → Type 0
Obeys tells disk disk_now session session_now lines result =
    Feeds tells None None disk disk_now session session_now lines result

-- ---- behind them, lines whose replies are given

-- It ended with `Full` exactly where the work of a line found no place, or it was interrupted before. Of the replies to `asked` those to the
-- lines before that one were given, and no more.
pub record IsFullBehind (limit : ℕ) (held : Holding) (start : Machine) (lines asked : List (List ℕ)) (given : List ℕ)
    (status : Status) : Type 0 where
  pub only : (need gap : ℕ) → status ≡ Full need gap
      → (answered : ℕ) × Overflows limit held start (lines ++ asked) answered need gap
      × (given ≡ concat (drop (length lines) (take answered (replies start (lines ++ asked)))))
  pub always : (answered need gap : ℕ) → Overflows limit held start (lines ++ asked) answered need gap
      → (status ≡ Full need gap) ⊎ IsInterrupted status

-- Over an open index that has this: the replies to `asked` were given, and the disk has what the work of all lines makes of it, or it ended
-- before.
pub record ReportsFrom (limit : ℕ) (held : Holding) (start : Machine) (lines asked : List (List ℕ)) (given : List ℕ)
    (disk_now : DiskState) (status : Status) : Type 0 where
  pub begins : IsPrefix given (concat (replies (machine_after start lines) asked))
  pub all : status ≡ Done → given ≡ concat (replies (machine_after start lines) asked)
  pub stands : status ≡ Done → StandsFor (machine_after start (lines ++ asked)).state disk_now.content
  -- nothing is pending then
  pub levels : status ≡ Done → IsDone (worked_lines limit start held (lines ++ asked)) disk_now
  pub full : IsFullBehind limit held start lines asked given status
  pub opened : EndsOpened status

-- ---- all of it

-- a status with which a demo may end
abbrev pub EndsDemo : Status → Type 0
EndsDemo status = EndsInit status ⊎ (EndsLine status ⊎ (status ≡ NoRoot))

-- An index is made as by `init`; then `lines` are answered on it, without giving their replies, and then `asked`, whose replies are given.
pub record Demonstrates (tells : Type 0) (lines asked : List (List ℕ)) (told told_now : Option (List Event))
    (disk disk_now : DiskState) (status : Status) : Type 0 where
  pub ends : EndsDemo status
  -- nothing is taken
  pub given : List ℕ
  pub gave : Gives told told_now given
  -- at every status
  pub begins : tells → IsPrefix given (concat (replies (machine_after (started_at empty_state) lines) asked))
  pub opened : tells → EndsOpened status
  -- where there is an index already, or the disk is too small for one
  pub exists : tells → status ≡ Exists → HasNoRoot disk.content → ⊥
  pub found : tells → (HasNoRoot disk.content → ⊥) → (status ≡ Exists) ⊎ (status ≡ DiskFault)
  pub small : disk.limit < HEAD_BYTES → (status ≡ Exists)
      ⊎ ((status ≡ Full HEAD_BYTES disk.limit) ⊎ (status ≡ DiskFault))
  pub unmade : (status ≡ Exists) ⊎ ((disk.limit < HEAD_BYTES) × IsUnmade status)
      → KeepsDisk tells disk disk_now × (given ≡ [])
  -- where there is none, and the disk may have one: from what a new index holds on
  pub reports : tells → HasNoRoot disk.content → HEAD_BYTES ≤ disk.limit
      → ReportsFrom disk.limit empty_held (started_at empty_state) lines asked given disk_now status
  pub narrow : (need gap : ℕ) → tells → HEAD_BYTES ≤ disk.limit → status ≡ Full need gap → IsFull disk_now need gap
  pub stands : status ≡ Done → Stands tells disk_now
      (StandsFor (machine_after (started_at empty_state) (lines ++ asked)).state)
