-- What a call that changes a store does, in one word.
use Rattle.std.specs.Prelude.{◌≡◌, ◌⊎◌, ◌<◌, ◌+◌, ◌==◌, ◌&&◌, ◌||◌, nat_le, not, ℕ, Bool, cond, true, false, List, [], length, map, take, Option, Some, None, Result, Ok, Err, OnOk, IfOk, IfErr}
use Rattle.std.specs.List.{All, flat_map, sum_by}
use Rattle.alta_layout.specs.Places.{half_start}
use Rattle.alta_catalog.specs.Knowing.{gone_of, memory_of}
use Rattle.alta_codec.specs.Faults.{Rose}
use Rattle.alta_codec.specs.declared.extent.Extent.{Extent}
use Rattle.alta_content.specs.Rows.{live_rows}
use Rattle.alta_disk.specs.Calls.{Costs}
use Rattle.alta_disk.specs.Disk.{DiskState, LeavesOnly}
use Rattle.alta_meaning.specs.Broken.{IsBrokenAmong}
use Rattle.alta_meaning.specs.Chain.{◌>>=◌}
use Rattle.alta_meaning.specs.Holding.{Holding, IsJobOf}
use Rattle.alta_meaning.specs.Levels.{Level}
use Rattle.alta_meaning.specs.Opened.{Opened, IsOpened, bytes_at, extent_of}
use Rattle.alta_meaning.specs.Standing.{StandsFor, StandsForEither, view_of}
use Rattle.alta_meaning.specs.Switching.{with_entry}
use Rattle.alta_meaning.specs.Entries.{after_entry}
use Rattle.alta_meaning.specs.Views.{View}
use Rattle.alta_meaning.specs.Work.{Job, Task, enters, fits, flushes, gone, merges, needs_raise, newest_content, oldest_joined, steps}
use Rattle.alta_meaning.specs.Working.{AreFirstGaps, Full, all_contents, entered, worked, written}
use Rattle.alta_joins.specs.Contents.{AreSegmentsOn, data_size}
use Rattle.alta_joins.specs.Damages.{IsFirstDamage}
use Rattle.alta_journal.specs.Record.{body_of}
use Rattle.alta_journal.specs.declared.entry.Entry.{Entry}
use Rattle.alta_journal.specs.declared.entry.Entry.TheVariants.{Add, Replace}
use Rattle.alta_merge.specs.Merging.{Merging}
use Rattle.alta_machine.specs.Changes.{with_added, with_replaced}
use Rattle.alta_machine.specs.declared.document.State.{State}
use Rattle.alta_rewrite.specs.Drafts.{rewrite_places}
use Rattle.alta_rewrite.specs.Rewrites.{HaveRows, IsComing, IsGiven, Replaces, no_content}
use Rattle.alta_rewrite.specs.declared.ends.Ends.{Ends}
use Rattle.alta_rewrite.specs.declared.levels.NextLevels.{NextLevels}
use Rattle.alta_root.specs.Gaps.{IsLongestGap, taken_by}
use Rattle.alta_root.specs.Root.{extents_of}
use Rattle.alta_store.specs.Agreement.{Agrees, Has, IsJobIn, Keeps, Knows, MaySpeakOf, MaySpeakOfEither, is_sound, levels_of, room_of}
use Rattle.alta_store.specs.Answers.{IsOutside}
use Rattle.alta_store.specs.declared.fault.StoreFault.{StoreFault}
use Rattle.alta_store.specs.declared.fault.StoreFault.TheVariants as faults
use Rattle.alta_store.specs.declared.store.Store.{Store}
use Rattle.alta_table.specs.Tables.{Tables}
use Rattle.alta_table.specs.Terms.{terms_of}
use Rattle.alta_content.specs.Joining.{in_order, joined_in}

-- ---- which entries find the root switched before them

-- The journal has no room for an entry: the root's version can't have its record, or the record does not fit behind those that are there.
abbrev pub needs_room : Store → Entry → Bool
needs_room store entry = needs_raise store.root.version entry || not (nat_le (length (body_of entry)) (room_of store))

-- the same of what is opened, and of a view
abbrev pub lacks_room : ℕ → List Entry → Entry → Bool
lacks_room version entries entry = needs_raise version entry || not (fits entries entry)

-- ---- which levels a task reads and joins

-- levels that are read, unless they were read as a join began
abbrev pub unless_read : Option Merging → List Tables → List Tables
unless_read None levels = levels
unless_read (Some merging) levels = []

-- a newest document is live
abbrev pub has_live : Store → Bool
has_live store = nat_le 1 (length (live_rows (gone_of store.catalog) (memory_of store.catalog).content.documents))

-- those of a flush: the two oldest, where there are 16 and one comes behind them
abbrev pub flush_joins : Store → List Tables
flush_joins store = cond (length (levels_of store) == 16 && has_live store)
    (unless_read store.job (take 2 (levels_of store))) []

-- There is nothing to merge: at most one level, no deletion list, and no entry in the journal.
abbrev pub is_one : Store → Bool
is_one store = nat_le (length (levels_of store)) 1 && length store.listed.items == 0
    && store.tail.place == half_start store.tail.slot

-- those of a merge: all, where there is something to merge
abbrev pub merge_joins : Store → List Tables
merge_joins store = cond (is_one store) [] (levels_of store)

-- those of a step: the two oldest, where there are two
abbrev pub step_joins : Store → List Tables
step_joins store = cond (nat_le 2 (length (levels_of store))) (unless_read store.job (take 2 (levels_of store))) []

-- those of a task: an entry that finds no room reads those of a flush
abbrev pub joined_by : Store → Task → List Tables
joined_by store (enters entry) = cond (needs_room store entry) (flush_joins store) []
joined_by store flushes = flush_joins store
joined_by store merges = merge_joins store
joined_by store (steps n) = step_joins store

-- ---- what a task makes of what is opened, whatever the streams of its levels are: what is opened then, or the place that is wanting

-- what a switch of the root to these levels comes to
abbrev pub ComesTo : ℕ → Opened → NextLevels → Ends → ℕ → ℕ → Result Opened Full → Type 0
ComesTo limit o levels ends next location (Ok p) = IsComing limit o p levels ends next location
ComesTo limit o levels ends next location (Err full) = rewrite_places limit o.root levels ends ≡ Err full

-- of levels that have the rows of what is opened, those that do not stay have the lists too that stand on an image
abbrev pub HaveLists : List ℕ → Opened → List Level → NextLevels → Type 0
HaveLists image o there levels =
    AreSegmentsOn image (take levels.stay_from o.levels) (map (λ (l : Level). l.content) (take levels.stay_from there))

-- The root is switched to levels of this kind, or one of those to write, or the list, has no place. What comes in place of levels is made
-- of the lists that stand on the image.
pub record IsRewrite (limit : ℕ) (image : List ℕ) (kind : View → NextLevels → Type 0) (o : Opened)
    (outcome : Result Opened Full)
    : Type 0 where
  pub there : List Level
  pub have : HaveRows o there
  pub levels : NextLevels
  pub read : HaveLists image o there levels
  pub kind_is : kind (view_of o there) levels
  pub ends : Ends
  pub next : ℕ
  pub location : ℕ
  pub given : IsGiven (view_of o there) levels ends next location
  pub comes : ComesTo limit o levels ends next location outcome

-- all levels stay, and the newest documents come behind them
abbrev pub AddsNewest : View → NextLevels → Type 0
AddsNewest view levels = Replaces levels 0 no_content (newest_content view)

-- The join of the two oldest comes in place of them, and the newest documents come behind all: by the job of the join that goes on, or else
-- without all that is gone.
pub record JoinsOldest (going : Option Merging) (view : View) (levels : NextLevels) : Type 0 where
  pub job : Option Job
  pub is : IsJobIn going job
  pub over : IsJobOf job view
  pub replaces : Replaces levels 2 (oldest_joined job view) (newest_content view)

-- the join of all levels and the newest documents comes in place of all
abbrev pub JoinsAll : View → NextLevels → Type 0
JoinsAll view levels = Replaces levels (length view.levels) (joined_in (all_contents view) (gone view)) no_content

-- there are 16 levels, and one to write
abbrev pub is_many : View → Bool
is_many view = length view.levels == 16 && nat_le 1 (length (newest_content view).documents)

abbrev pub Flushes : Option Merging → View → NextLevels → Type 0
Flushes going view levels = ((is_many view ≡ false) × AddsNewest view levels)
    ⊎ ((is_many view ≡ true) × JoinsOldest going view levels)

-- the terms of levels, in collating order, each once
abbrev pub terms_by : List Tables → List (List ℕ)
terms_by levels = in_order (flat_map (λ (t : Tables). terms_of t.terms) levels)

-- A step of so many terms ends the join that goes on, where no more are left of it; or one that begins, where the two oldest levels have no
-- more.
abbrev pub ends_join : ℕ → Option Merging → List Tables → Bool
ends_join n (Some merging) levels = nat_le (length merging.left) n
ends_join n None levels = nat_le 2 (length levels) && nat_le (length (terms_by (take 2 levels))) n

-- Behind a flush an image is opened as before, where the journal has no entry, or else with the newest documents in a level.
abbrev pub BecomesFlushed : ℕ → List ℕ → Option Merging → Opened → Result Opened Full → Type 0
BecomesFlushed limit image going o outcome = ((o.entries ≡ []) × (outcome ≡ Ok o))
    ⊎ IsRewrite limit image (Flushes going) o outcome

-- Behind a merge it is opened as before, where there is nothing to merge, or else with one level at most.
abbrev pub BecomesMerged : ℕ → List ℕ → Opened → Result Opened Full → Type 0
BecomesMerged limit image o outcome =
    (((nat_le (length o.levels) 1 && length o.deleted == 0 && length o.entries == 0) ≡ true) × (outcome ≡ Ok o))
    ⊎ IsRewrite limit image JoinsAll o outcome

-- Behind a step it is opened as before, where its join does not end, or else with the two oldest levels joined.
abbrev pub BecomesStepped : ℕ → List ℕ → Option Merging → ℕ → Opened → Result Opened Full → Type 0
BecomesStepped limit image going n o outcome =
    ((ends_join n going o.levels ≡ false) × (outcome ≡ Ok o))
    ⊎ ((ends_join n going o.levels ≡ true) × IsRewrite limit image (JoinsOldest going) o outcome)

-- With room for an entry: as before where there is room, or else with the newest documents in a level and an empty journal, under a root of
-- the last version.
abbrev pub GetsRoom : ℕ → List ℕ → Option Merging → Entry → Opened → Result Opened Full → Type 0
GetsRoom limit image going entry o outcome =
    ((lacks_room o.root.version o.entries entry ≡ false) × (outcome ≡ Ok o))
    ⊎ ((lacks_room o.root.version o.entries entry ≡ true) × IsRewrite limit image (Flushes going) o outcome)

-- with an entry more
abbrev pub BecomesEntered : ℕ → List ℕ → Option Merging → Entry → Opened → Result Opened Full → Type 0
BecomesEntered limit image going entry o outcome =
    (roomy : Result Opened Full) × GetsRoom limit image going entry o roomy
    × (outcome ≡ (roomy >>= λ p. Ok (with_entry p entry)))

-- What a task makes of an image that is opened so, where this join goes on.
abbrev pub Becomes : ℕ → List ℕ → Option Merging → Task → Opened → Result Opened Full → Type 0
Becomes limit image going (enters entry) o outcome = BecomesEntered limit image going entry o outcome
Becomes limit image going flushes o outcome = BecomesFlushed limit image going o outcome
Becomes limit image going merges o outcome = BecomesMerged limit image o outcome
Becomes limit image going (steps n) o outcome = BecomesStepped limit image going n o outcome

-- no fault refuses
abbrev pub NoRefusal : StoreFault → Type 0
NoRefusal fault = ⊥

-- ---- where no place is left

-- levels that a flush, a step or a merge puts in place of others, whichever join goes on
abbrev pub IsWork : View → NextLevels → Type 0
IsWork view levels = (going : Option Merging)
    × (Flushes going view levels ⊎ (JoinsOldest going view levels ⊎ JoinsAll view levels))

-- The image is opened, and a switch of its root, by a flush, a step or a merge of what stands there, lacks a place: the gap is the greatest
-- beside the extents of the root and those that are placed before in this switch, each at the first gap, and the need is above it.
pub record IsNarrow (limit : ℕ) (image : List ℕ) (need gap : ℕ) : Type 0 where
  pub opened : Opened
  pub is : IsOpened opened image
  pub lacks : IsRewrite limit image IsWork opened (Err (record { need = need; gap = gap }))
  pub extra : List Extent
  pub first : AreFirstGaps limit (extents_of opened.root) extra
  pub longest : IsLongestGap (taken_by opened.root extra) limit gap
  pub short : gap < need

-- ---- what a call may answer

-- why a call that changes the store was not done: an outside cause, a refusal, want of a place, or damage
abbrev pub IsCause : (StoreFault → Type 0) → StoreFault → Type 0
IsCause refuses e = IsOutside e ⊎ (refuses e
    ⊎ (((need : ℕ) × (gap : ℕ) × (e ≡ faults.Full need gap)) ⊎ ((place : ℕ) × (e ≡ faults.Damaged place))))

-- Damage is answered exactly where one of these levels is damaged, with the first; that yields to an outside cause and to a refusal.
pub record FindsFirstDamage {T : Type 0} (refuses : StoreFault → Type 0) (image : List ℕ) (levels : List Tables)
    (result : Result T StoreFault) : Type 0 where
  pub first : (place : ℕ) → result ≡ Err (faults.Damaged place) → IsFirstDamage image levels place
  pub broken : (place : ℕ) → result ≡ Err (faults.Damaged place) → IsBrokenAmong levels image place
  pub damaged : (place : ℕ) → IsFirstDamage image levels place → IfOk result (λ x. ⊥)
      × IfErr result (λ e. (e ≡ faults.Damaged place) ⊎ (IsOutside e ⊎ refuses e))

-- ---- a call that changes the store

-- The levels are those of before, and where the disk tells, they have the bytes that they had.
pub record HasSameLevels (tells : Type 0) (before after : DiskState) (store later : Store) : Type 0 where
  pub tables : levels_of later ≡ levels_of store
  pub bytes : tells → All (λ (level : Tables). bytes_at (extent_of level) after.content
      ≡ bytes_at (extent_of level) before.content) (levels_of store)

-- What holds once it is done.
pub record ChangesDone {T : Type 0} (tells : Type 0) (work : ℕ → Holding → Result Holding Full)
    (turns : ℕ → Opened → Result Opened Full → Type 0) (step : State → State) (before after : DiskState)
    (store later : Store) (result : Result T StoreFault) : Type 0 where
  -- store and disk agree, the store may be used if it could be before, and it knows the state after
  pub agrees : OnOk result (Agrees tells after later)
  pub sound : OnOk result (is_sound later ≡ is_sound store)
  pub knows : (s : State) → Knows store s → OnOk result (Knows later (step s))
  -- where the slot that counts is the one of before, the levels have stayed, also on a disk that stands for no state
  pub levels : OnOk result (later.slot ≡ store.slot → HasSameLevels tells before after store later)
  -- what is held then is what the work makes of it
  pub works : (held : Holding) → tells → Has store held before.content
      → OnOk result ((then : Holding) × (work before.limit held ≡ Ok then) × Has later then after.content)
  -- the content stands for the state after, and may speak of it
  pub stands : (s : State) → tells → StandsFor s before.content → OnOk result (StandsFor (step s) after.content)
  pub speaks : (s : State) → tells → MaySpeakOf s before.content → OnOk result (MaySpeakOf (step s) after.content)
  -- what is opened then, also on a disk that stands for no state
  pub becomes : (o : Opened) → tells → IsOpened o before.content
      → OnOk result ((p : Opened) × turns before.limit o (Ok p) × IsOpened p after.content × Keeps later p)

-- How it fails: each error comes from its cause.
pub record ChangesFailed {T : Type 0} (tells : Type 0) (work : ℕ → Holding → Result Holding Full)
    (turns : ℕ → Opened → Result Opened Full → Type 0) (refuses : StoreFault → Type 0) (joins : List Tables)
    (before after : DiskState) (store : Store) (result : Result T StoreFault) : Type 0 where
  -- a place that is wanting is one that the work wants, and which one, also on a disk that stands for no state
  pub full : (held : Holding) (need gap : ℕ) → tells → Has store held before.content
      → result ≡ Err (faults.Full need gap) → work before.limit held ≡ Err (record { need = need; gap = gap })
  pub lacks : (o : Opened) (need gap : ℕ) → tells → IsOpened o before.content → result ≡ Err (faults.Full need gap)
      → turns before.limit o (Err (record { need = need; gap = gap }))
  pub narrow : (need gap : ℕ) → tells → result ≡ Err (faults.Full need gap)
      → IsNarrow before.limit after.content need gap
  pub unwritten : tells → (need gap : ℕ) → result ≡ Err (faults.Full need gap) → after.content ≡ before.content
  -- damage is that of the levels that are read, and none is written over
  pub damage : tells → FindsFirstDamage refuses before.content joins result
  pub undamaged : (s : State) → tells → StandsFor s before.content → (place : ℕ)
      → result ≡ Err (faults.Damaged place) → ⊥
  pub unread : tells → joins ≡ [] → (place : ℕ) → result ≡ Err (faults.Damaged place) → ⊥
  pub still : tells → (place : ℕ) → result ≡ Err (faults.Damaged place) → after.content ≡ before.content
  pub only : IfErr result (IsCause refuses)
  pub cause : result ≡ Err faults.Disk → Rose before.faults after.faults

-- What holds at each moment of it, however it ends.
pub record ChangesThroughout (tells : Type 0) (step : State → State) (bytes : ℕ) (joins : List Tables)
    (before after : DiskState) : Type 0 where
  -- an image stands for the state of before or the one after
  pub images : (s : State) → (tells → StandsFor s before.content) → LeavesOnly (StandsForEither s (step s)) before after
  -- on a disk that stands for no state too: of each state of which the content of before may speak, an image may speak of it or of the
  -- one after
  pub between : (s : State) → (tells → MaySpeakOf s before.content)
      → LeavesOnly (MaySpeakOfEither s (step s)) before after
  pub costs : Costs (bytes + sum_by data_size joins) before after

-- By this work, which turns what is opened so, and makes this of a state. It refuses by these faults; it reads the lists of these levels,
-- and at most so many bytes beside them.
pub record Changes {T : Type 0} (tells : Type 0) (work : ℕ → Holding → Result Holding Full)
    (turns : ℕ → Opened → Result Opened Full → Type 0) (step : State → State) (refuses : StoreFault → Type 0)
    (bytes : ℕ) (joins : List Tables) (before after : DiskState) (store later : Store)
    (result : Result T StoreFault) : Type 0 where
  pub done : ChangesDone tells work turns step before after store later result
  pub failed : ChangesFailed tells work turns refuses joins before after store result
  pub throughout : ChangesThroughout tells step bytes joins before after

-- a call that does a task
abbrev pub Obeys : {T : Type 0} → Type 0 → Task → (State → State) → (StoreFault → Type 0) → DiskState → DiskState
    → Store → Store → Result T StoreFault → Type 0
Obeys tells task step refuses before after store later result =
    Changes tells (λ limit held. worked limit held task)
    (λ limit o outcome. Becomes limit before.content store.job task o outcome)
    step refuses 1 (joined_by store task) before after store later result

-- a call that makes the live newest documents a level and switches the root, also with an empty journal
abbrev pub Writes : {T : Type 0} → Type 0 → DiskState → DiskState → Store → Store → Result T StoreFault → Type 0
Writes tells before after store later result =
    Changes tells written (λ limit o outcome. IsRewrite limit before.content
    (Flushes store.job) o outcome) (λ s. s) NoRefusal
    1 (flush_joins store) before after store later result

-- a call that makes room for an entry, by a switch of the root where there is none
abbrev pub MakesRoom : {T : Type 0} → Type 0 → Entry → DiskState → DiskState → Store → Store
    → Result T StoreFault → Type 0
MakesRoom tells entry before after store later result =
    Changes tells (λ limit held. cond (lacks_room held.view.version held.view.entries entry)
    (written limit held) (Ok held))
    (λ limit o outcome. GetsRoom limit before.content store.job entry o outcome) (λ s. s) NoRefusal
    1 (joined_by store (enters entry)) before after store later result

-- the step that an entry makes of each state that a store knows
abbrev pub IsStepOf : Entry → (State → State) → Store → Type 0
IsStepOf entry step store = (s : State) → Knows store s → after_entry s entry ≡ step s

-- and of each that a later store knows, which knows one of the states of this one
abbrev pub IsStepFrom : Entry → (State → State) → Store → Type 0
IsStepFrom entry step store = (later : Store) (s : State) → Knows store s → Knows later s → IsStepOf entry step later

-- a call that appends an entry
abbrev pub Enters : {T : Type 0} → Type 0 → Entry → (State → State) → DiskState → DiskState → Store → Store
    → Result T StoreFault → Type 0
Enters tells entry step before after store later result =
    Changes tells (λ limit held. Ok (entered held entry)) (λ limit o outcome. outcome
    ≡ Ok (with_entry o entry)) step NoRefusal 0 [] before after store later result

-- the entry that puts a document in the place of the live one with this number, or adds it where there is none
abbrev pub entry_for : Option ℕ → List ℕ → List ℕ → List ℕ → Entry
entry_for None name title body = Add name title body
entry_for (Some n) name title body = Replace n name title body

-- and the state behind it
abbrev pub with_put : Option ℕ → List ℕ → List ℕ → List ℕ → State → State
with_put None name title body s = with_added name title body s
with_put (Some n) name title body s = with_replaced name title body s

-- no number is left
abbrev pub RefusesPut : StoreFault → Type 0
RefusesPut fault = fault ≡ faults.Numbers

-- the name is taken, or no number is left
abbrev pub RefusesAdd : StoreFault → Type 0
RefusesAdd fault = (fault ≡ faults.Taken) ⊎ (fault ≡ faults.Numbers)

-- no live document has the name, or no number is left
abbrev pub RefusesReplace : StoreFault → Type 0
RefusesReplace fault = (fault ≡ faults.Missing) ⊎ (fault ≡ faults.Numbers)
