-- A whole run of a console and a disk.
use Rattle.std.specs.Prelude.{◌≡◌, ◌≢◌, ◌<◌, ◌≤◌, ◌↔◌, ◌⊎◌, ℕ, ◌+◌, true, List, [], ◌∷◌, ◌++◌, Option, length, take, drop, All}
use Rattle.alta_console.specs.Lines.{whole}
use Rattle.std.specs.List.{concat}
use Rattle.alta_console.specs.Replies.{IsPrefix, IsAcked}
use Rattle.alta_console.specs.Transcript.{given_in, taken_in, has_ended, lines_in, TakesAt, Grows, Consumes}
use Rattle.alta_console.specs.declared.event.Event.{Event}
use Rattle.alta_console.specs.declared.event.Event.TheVariants.{Taken}
use Rattle.alta_disk.specs.Disk.{DiskState, Each, Only, Same, Stands, Passes, LeavesOnly}
use Rattle.alta_machine.specs.declared.document.State.{State}
use Rattle.alta_session.specs.Agreement.{AgreesOn, SpeaksOn}
use Rattle.alta_session.specs.Damage.{FirstFindsDamage, FirstWantsPlace}
use Rattle.alta_session.specs.Fullness.{IsFullExactly}
use Rattle.alta_machine.specs.Machine.{Machine, started_at, replies}
use Rattle.alta_session.specs.Progress.{SpeaksAfter, SpeaksAfterSome, SpeaksWithin, StandsAfterSome, StandsAfter}
use Rattle.alta_session.specs.Replied.{AreInTime, AreRepliesTo, GivesReplies}
use Rattle.alta_session.specs.Spending.{KeepsSettled, OnlyReads, Spends, lines_bytes, newest_of_opened, opening_bytes}
use Rattle.alta_session.specs.Tasks.{IsBy, IsDone, IsFirst, IsOn, IsWorked, worked_lines}
use Rattle.alta_session.specs.declared.session.Session.{Session}
use Rattle.alta_session.specs.declared.status.Status.{Status}
use Rattle.alta_session.specs.declared.status.Status.TheVariants.{Done, TooLong, Damaged, DiskFault, Full}
use Rattle.alta_meaning.specs.Broken.{IsBrokenAt}
use Rattle.alta_meaning.specs.Holding.{Holding}
use Rattle.alta_meaning.specs.Standing.{StandsFor}
use Rattle.alta_store.specs.Agreement.{MaySpeakOf}

-- At each take, what was given so far is the replies to the whole lines taken so far.
abbrev pub AnswersInTime : Machine → List Event → Type 0
AnswersInTime start run = (k : ℕ) → TakesAt run k → given_in (take k run)
    ≡ concat (replies start (whole (taken_in (take k run))))

-- What a run gives that begins at this machine and ends with this status: the replies of the machine.
pub record Replies (limit : ℕ) (start : Machine) (run : List Event) (status : Status) : Type 0 where
  pub begin : IsPrefix (given_in run) (concat (replies start (lines_in limit run)))
  pub all : status ≡ Done → (has_ended run ≡ true) × (given_in run ≡ concat (replies start (lines_in limit run)))
  pub in_time : AnswersInTime start run

-- each line was answered, and its reply given whole
abbrev pub AnswersAll : ℕ → Machine → List Event → Type 0
AnswersAll limit start run = given_in run ≡ concat (replies start (lines_in limit run))

-- The image stands for the state after a prefix of the lines that holds each line whose reply was given whole, and at
-- most one more.
pub record KeepsAnswered (limit : ℕ) (start : Machine) (run : List Event) (image : List ℕ) : Type 0 where
  pub answered : ℕ
  pub is_acked : IsAcked answered (replies start (lines_in limit run)) (given_in run)
  pub stands : StandsAfter answered start (lines_in limit run) image

-- What the disk may hold after a run from this machine, and at any moment from one on.
pub record KeepsPrefix (limit : ℕ) (start : Machine) (run : List Event) (disk disk_now : DiskState) : Type 0 where
  pub now : Each disk_now.images (KeepsAnswered limit start run)
  pub ever : LeavesOnly (StandsAfterSome start (lines_in limit run)) disk disk_now

-- The content is as it was, where it is told, and no image is new.
pub record KeepsDisk (tells : Type 0) (disk disk_now : DiskState) : Type 0 where
  pub content : tells → disk_now.content ≡ disk.content
  pub images : Passes Same disk disk_now

-- The take that passed the limit is the last event.
pub record EndsPast (limit : ℕ) (run : List Event) : Type 0 where
  pub before : List Event
  pub piece : List ℕ
  pub run_is : run ≡ before ++ Taken piece ∷ []
  pub within : length (taken_in before) ≤ limit

-- The replies of a run, whatever the disk stands for: at each take each whole line taken so far was answered, and each line was where it is
-- done.
pub record Replied (limit : ℕ) (run : List Event) (status : Status) : Type 0 where
  pub gives : GivesReplies (lines_in limit run) (given_in run)
  pub in_time : AreInTime gives.texts run
  pub all : status ≡ Done → (length gives.texts ≡ length (lines_in limit run)) × (gives.part ≡ [])

-- the lines from the first on whose reply was not given whole
abbrev pub unanswered : (limit : ℕ) (run : List Event) (status : Status) → Replied limit run status → List (List ℕ)
unanswered limit run status replied = drop (length replied.gives.texts) (lines_in limit run)

-- The run of an open session.
pub record RunsFrom (limit : ℕ) (disk disk_now : DiskState) (session : Session) (run : List Event) (status : Status)
    (m : Machine) : Type 0 where
  pub replies : Replies limit m run status
  pub keeps : KeepsPrefix limit m run disk disk_now
  -- of what the content has at the start
  pub full : (held : Holding) → IsBy session disk.content held
      → IsFullExactly disk.limit held m (lines_in limit run) (given_in run) status
  -- where each line was answered
  pub levels : (held : Holding) → IsBy session disk.content held → AnswersAll limit m run
      → IsDone (worked_lines disk.limit m held (lines_in limit run)) disk_now
  pub undamaged : (place : ℕ) → status ≡ Damaged place → ⊥
  pub spends : Spends disk disk_now session m (lines_in limit run)

pub record Runs (tells : Type 0) (limit : ℕ) (told told_now : Option (List Event)) (left left_now : Option (List ℕ))
    (disk disk_now : DiskState) (session : Session) (status : Status) : Type 0 where
  pub run : List Event
  pub grew : Grows told told_now run
  pub read : Consumes left left_now (taken_in run)
  pub too_long : (status ≡ TooLong) ↔ (limit < length (taken_in run))
  pub last : limit < length (taken_in run) → EndsPast limit run
  pub replied : Replied limit run status
  pub damaged : (place : ℕ) → tells → status ≡ Damaged place
      → FirstFindsDamage disk_now.content (unanswered limit run status replied) place
  pub wanting : (need gap : ℕ) → tells → status ≡ Full need gap
      → FirstWantsPlace disk_now.limit disk_now.content (unanswered limit run status replied) need gap
  pub settled : KeepsSettled tells disk disk_now (lines_in limit run)
  pub each : (m : Machine) → tells → AgreesOn tells disk session m → RunsFrom limit disk disk_now session run status m
  pub spoken : (m : Machine) → tells → SpeaksOn tells disk session m
      → SpeaksWithin disk disk_now (lines_in limit run) replied.gives.texts replied.gives.part m

-- The disk failed as it was opened: no line was taken, and what the disk may hold now it might have held before.
pub record NotOpened (disk disk_now : DiskState) (run : List Event) (status : Status) : Type 0 where
  pub failed : status ≡ DiskFault
  pub none : run ≡ []
  pub same : Passes Same disk disk_now

-- From this moment on no image stood for another state than that after some of the lines. The content of the start still was an image
-- then, so it is no later than the first change. Before, each was one of the start.
pub record KeepsSince (limit : ℕ) (start : Machine) (run : List Event) (disk disk_now : DiskState) : Type 0 where
  pub moment : ℕ
  pub not_before : disk.clock ≤ moment
  pub not_after : moment ≤ disk_now.clock
  pub still : disk_now.since moment disk.content
  pub now : Each disk_now.images (KeepsAnswered limit start run)
  pub since : Each (disk_now.since moment) (StandsAfterSome start (lines_in limit run))
  pub ever : (image : List ℕ) → disk_now.since disk.clock image → disk.images image
      ⊎ StandsAfterSome start (lines_in limit run) image

-- A damaged index goes on being added to, and what was answered is there. Each line that may change the index was answered with the machine's
-- reply. Each image that a stop may leave now may speak of the documents after each line whose reply was given whole, or after one line more.
-- At each moment an image was one of the start, or may speak of the documents after some of the lines.
pub record KeepsReplied (limit : ℕ) (start : Machine) (run : List Event)
    (gives : GivesReplies (lines_in limit run) (given_in run)) (disk disk_now : DiskState) : Type 0 where
  pub replies : AreRepliesTo start (lines_in limit run) gives.texts gives.part
  pub now : Each disk_now.images (SpeaksAfter (length gives.texts) start (lines_in limit run))
  pub ever : (image : List ℕ) → disk_now.since disk.clock image → disk.images image
      ⊎ SpeaksAfterSome start (lines_in limit run) image

-- What holds at the end of a run that answered each line.
pub record ServesDone (tells : Type 0) (limit : ℕ) (disk disk_now : DiskState) (run : List Event) : Type 0 where
  -- where the content stands for a state and has this, and each line was answered: the levels, extents, deleted ends and entries at the end
  -- are those that the work of the lines gives; and where there were lines, nothing is pending
  pub levels : (s : State) (held : Holding) → tells → StandsFor s disk.content → IsFirst disk.content held
      → AnswersAll limit (started_at s) run
      → IsWorked (worked_lines disk.limit (started_at s) held (lines_in limit run)) (IsOn disk_now.content)
  pub settled : (s : State) → tells → StandsFor s disk.content → AnswersAll limit (started_at s) run
      → 0 < length (lines_in limit run) → Only disk_now.content disk_now.images

-- How a run ends before its input does, and why.
pub record ServesFailed (tells : Type 0) (limit : ℕ) (disk disk_now : DiskState) (status : Status) (run : List Event)
    (replied : Replied limit run status) : Type 0 where
  pub too_long : (status ≡ TooLong) ↔ (limit < length (taken_in run))
  pub last : limit < length (taken_in run) → EndsPast limit run
  -- damage is found as the index is opened, or by the first line without a whole reply
  pub damaged : (place : ℕ) → tells → status ≡ Damaged place → IsBrokenAt disk.content place
      ⊎ FirstFindsDamage disk_now.content (unanswered limit run status replied) place
  -- and a place is wanting where the work of that line finds none
  pub wanting : (need gap : ℕ) → tells → status ≡ Full need gap
      → FirstWantsPlace disk_now.limit disk_now.content (unanswered limit run status replied) need gap
  -- where the content stands for a state and has this
  pub full : (s : State) (held : Holding) → tells → StandsFor s disk.content → IsFirst disk.content held
      → IsFullExactly disk.limit held (started_at s) (lines_in limit run) (given_in run) status

-- What holds at each moment of a run, however it ends.
pub record ServesThroughout (tells : Type 0) (limit : ℕ) (disk disk_now : DiskState) (status : Status)
    (run : List Event) (replied : Replied limit run status) : Type 0 where
  -- Whatever was pending at the start, nothing is at the end of a run that took something and whose lines change nothing, also where a call
  -- failed. So the opening syncs before the first take: a later sync might fail.
  pub firm : tells → run ≢ [] → All OnlyReads (lines_in limit run) → Only disk_now.content disk_now.images
  -- where the content may speak of a state, also where a list is broken
  pub spoken : (s : State) → tells → MaySpeakOf s disk.content → NotOpened disk disk_now run status
      ⊎ KeepsReplied limit (started_at s) run replied.gives disk disk_now
  -- where the content stands for a state
  pub replies : (s : State) → tells → StandsFor s disk.content → Replies limit (started_at s) run status
  -- where each image stands for a state
  pub keeps : (s : State) → tells → Stands tells disk (StandsFor s) → KeepsPrefix limit (started_at s) run disk disk_now
  -- where the content does, whatever was pending
  pub reopened : (s : State) → tells → StandsFor s disk.content → NotOpened disk disk_now run status
      ⊎ KeepsSince limit (started_at s) run disk disk_now
  -- and no line changes the index: the bytes that opening reads, and those of the lists that the lines load
  pub reads : (s : State) → tells → (stands : StandsFor s disk.content) → All OnlyReads (lines_in limit run)
      → disk_now.taken ≤ disk.taken + (opening_bytes stands.opened.root disk.content
      + lines_bytes stands.opened.levels (newest_of_opened stands.opened) (started_at s) (lines_in limit run))

-- A run that opens what is on the disk.
pub record Serves (tells : Type 0) (limit : ℕ) (told told_now : Option (List Event)) (left left_now : Option (List ℕ))
    (disk disk_now : DiskState) (status : Status) : Type 0 where
  pub run : List Event
  pub grew : Grows told told_now run
  pub read : Consumes left left_now (taken_in run)
  pub replied : Replied limit run status
  pub done : ServesDone tells limit disk disk_now run
  pub failed : ServesFailed tells limit disk disk_now status run replied
  pub throughout : ServesThroughout tells limit disk disk_now status run replied
