-- How far lines were answered, and what the disk may hold then.
use Rattle.std.specs.Prelude.{◌≡◌, ◌≤◌, ℕ, ◌+◌, List, ◌++◌, Option, length, take, drop}
use Rattle.alta_console.specs.Giving.{Gives}
use Rattle.std.specs.List.{concat}
use Rattle.alta_console.specs.Replies.{IsPartOfFirst}
use Rattle.alta_console.specs.declared.event.Event.{Event}
use Rattle.alta_disk.specs.Disk.{DiskState, Each, LeavesOnly}
use Rattle.alta_session.specs.Agreement.{AgreesOn, SpeaksOn}
use Rattle.alta_session.specs.Damage.{FirstFindsDamage, FirstWantsPlace}
use Rattle.alta_session.specs.Fullness.{IsFullOnly}
use Rattle.alta_machine.specs.declared.document.State.{State}
use Rattle.alta_machine.specs.Machine.{Machine, machine_after, replies}
use Rattle.alta_session.specs.Replied.{AreRepliesTo, GivesReplies}
use Rattle.alta_session.specs.Spending.{KeepsSettled, Spends}
use Rattle.alta_session.specs.Tasks.{IsBy, IsDone, worked_lines}
use Rattle.alta_session.specs.declared.session.Session.{Session}
use Rattle.alta_session.specs.declared.status.Status.{Status}
use Rattle.alta_session.specs.declared.status.Status.TheVariants.{Damaged, Full}
use Rattle.alta_meaning.specs.Holding.{Holding}
use Rattle.alta_meaning.specs.Standing.{StandsFor}
use Rattle.alta_store.specs.Agreement.{MaySpeakOf}

-- the image has this of the state after some of the lines, in order from the first
pub record AfterSome (Has : State → List ℕ → Type 0) (start : Machine) (lines : List (List ℕ))
    (image : List ℕ) : Type 0 where
  pub reached : ℕ
  pub within : reached ≤ length lines
  pub has : Has (machine_after start (take reached lines)).state image

-- the image has this of the state after this many of the lines, or after one more
pub record After (Has : State → List ℕ → Type 0) (answered : ℕ) (start : Machine) (lines : List (List ℕ))
    (image : List ℕ) : Type 0 where
  pub reached : ℕ
  pub least : answered ≤ reached
  pub most : reached ≤ answered + 1
  pub within : reached ≤ length lines
  pub has : Has (machine_after start (take reached lines)).state image

-- it stands for that state
abbrev pub StandsAfterSome : Machine → List (List ℕ) → List ℕ → Type 0
StandsAfterSome start lines image = AfterSome StandsFor start lines image

abbrev pub StandsAfter : ℕ → Machine → List (List ℕ) → List ℕ → Type 0
StandsAfter answered start lines image = After StandsFor answered start lines image

-- it may speak of that state, whatever the lists of its levels are
abbrev pub SpeaksAfterSome : Machine → List (List ℕ) → List ℕ → Type 0
SpeaksAfterSome start lines image = AfterSome MaySpeakOf start lines image

abbrev pub SpeaksAfter : ℕ → Machine → List (List ℕ) → List ℕ → Type 0
SpeaksAfter answered start lines image = After MaySpeakOf answered start lines image

-- Of the replies to lines some were given whole, and then less than the whole next one. Each of the images stands for
-- the state after the lines of the whole replies, or after one more.
pub record Progress (start : Machine) (lines : List (List ℕ)) (given : List ℕ) (images : List ℕ → Type 0) : Type 0 where
  pub answered : ℕ
  pub part : List ℕ
  pub some : answered ≤ length lines
  pub given_is : given ≡ concat (take answered (replies start lines)) ++ part
  pub started : IsPartOfFirst (drop answered (replies start lines)) part
  pub stand : (image : List ℕ) → images image → StandsAfter answered start lines image

-- Of lines some were answered, and it ended with this status. Where each reply was given, the work of all is done.
pub record StopsWithinFrom (disk disk_now : DiskState) (session : Session) (lines : List (List ℕ)) (given : List ℕ)
    (status : Status) (m : Machine) : Type 0 where
  pub progress : Progress m lines given disk_now.images
  pub images : LeavesOnly (StandsAfterSome m lines) disk disk_now
  pub full : (held : Holding) → IsBy session disk.content held → IsFullOnly disk.limit held m lines given status
  pub works : (held : Holding) → IsBy session disk.content held → given ≡ concat (replies m lines)
      → IsDone (worked_lines disk.limit m held lines) disk_now
  pub undamaged : (place : ℕ) → status ≡ Damaged place → ⊥
  pub spends : Spends disk disk_now session m lines

-- The same on a disk that may stand for no state. These are the replies to some of the lines, and a part of the next: each of the images may
-- speak of the state after the lines of the whole replies, or after one more, and at no moment did one speak of another than after some.
pub record SpeaksWithin (disk disk_now : DiskState) (lines texts : List (List ℕ)) (part : List ℕ)
    (m : Machine) : Type 0 where
  pub replies : AreRepliesTo m lines texts part
  pub now : Each disk_now.images (SpeaksAfter (length texts) m lines)
  pub images : LeavesOnly (SpeaksAfterSome m lines) disk disk_now

-- Damage was found, and a place was wanting, by the first line without a whole reply.
pub record StopsWithin (tells : Type 0) (told told_now : Option (List Event)) (disk disk_now : DiskState)
    (session : Session) (lines : List (List ℕ)) (status : Status) : Type 0 where
  pub given : List ℕ
  pub gave : Gives told told_now given
  pub replied : GivesReplies lines given
  pub damaged : (place : ℕ) → tells → status ≡ Damaged place
      → FirstFindsDamage disk_now.content (drop (length replied.texts) lines) place
  pub wanting : (need gap : ℕ) → tells → status ≡ Full need gap
      → FirstWantsPlace disk_now.limit disk_now.content (drop (length replied.texts) lines) need gap
  pub settled : KeepsSettled tells disk disk_now lines
  pub each : (m : Machine) → tells → AgreesOn tells disk session m
      → StopsWithinFrom disk disk_now session lines given status m
  pub spoken : (m : Machine) → tells → SpeaksOn tells disk session m
      → SpeaksWithin disk disk_now lines replied.texts replied.part m
