-- How levels are read and put in place of others.
use Rattle.std.specs.Prelude.{◌≡◌, ◌⊎◌, ◌-◌, ◌+◌, ◌≤◌, ⊤, ℕ, Bool, true, false, List, [], ◌++◌, length, Option, None, Result, Ok, Err, OnOk, IfErr}
use Rattle.std.specs.List.{All, filter, sum_by}
use Rattle.alta_layout.specs.Places.{other}
use Rattle.alta_catalog.specs.Knowing.{gone_of, memory_of}
use Rattle.alta_catalog.specs.Replacing.{IsEmptied, rows_between}
use Rattle.alta_codec.specs.Faults.{Rose}
use Rattle.alta_content.specs.Parts.{IsPart}
use Rattle.alta_content.specs.Rows.{ends_among}
use Rattle.alta_content.specs.declared.content.Content.{Content}
use Rattle.alta_content.specs.declared.document.DocRow.{DocRow}
use Rattle.alta_disk.specs.Calls.{Costs, Reads}
use Rattle.alta_disk.specs.Disk.{DiskState, LeavesOnly, Passes}
use Rattle.alta_meaning.specs.Holding.{Holding, IsHeld}
use Rattle.alta_meaning.specs.Levels.{Level}
use Rattle.alta_meaning.specs.Opened.{Opened, IsOpened, table_rows}
use Rattle.alta_meaning.specs.Standing.{StandsFor, view_of}
use Rattle.alta_meaning.specs.Views.{View, state_of}
use Rattle.alta_meaning.specs.Work.{Job, coming}
use Rattle.alta_meaning.specs.Working.{Full, switched}
use Rattle.alta_joins.specs.Contents.{AreSegmentsOn, data_size}
use Rattle.alta_machine.specs.declared.document.State.{State}
use Rattle.alta_rewrite.specs.Rewrites.{AgreesWith, HaveRows, IsGiven, levels_to_come}
use Rattle.alta_rewrite.specs.declared.ends.Ends.{Ends}
use Rattle.alta_rewrite.specs.declared.levels.NextLevels.{NextLevels}
use Rattle.alta_store.specs.Agreement.{Agrees, Keeps, Knows, MaySpeakOf, is_sound, levels_of}
use Rattle.alta_store.specs.Answers.{IsOutside}
use Rattle.alta_store.specs.Calls.{ComesTo, FindsFirstDamage, NoRefusal}
use Rattle.alta_store.specs.declared.fault.StoreFault.{StoreFault}
use Rattle.alta_store.specs.declared.fault.StoreFault.TheVariants as faults
use Rattle.alta_store.specs.declared.store.Store.{Store}
use Rattle.alta_table.specs.Tables.{Tables}

-- ---- a call that reads levels

-- It writes nothing, and reads no more than the lists of these levels. Damage is that of these levels.
pub record ReadsLevels {T : Type 0} (tells : Type 0) (levels : List Tables) (before after : DiskState)
    (result : Result T StoreFault) : Type 0 where
  pub damage : tells → FindsFirstDamage NoRefusal before.content levels result
  pub whole : (contents : List Content) (place : ℕ) → tells → AreSegmentsOn before.content levels contents
      → result ≡ Err (faults.Damaged place) → ⊥
  pub unread : tells → levels ≡ [] → (place : ℕ) → result ≡ Err (faults.Damaged place) → ⊥
  pub only : IfErr result (λ e. IsOutside e ⊎ ((place : ℕ) × (e ≡ faults.Damaged place)))
  pub cause : result ≡ Err faults.Disk → Rose before.faults after.faults
  pub reads : Reads tells (sum_by data_size levels) before after

-- ---- a store whose newest documents were taken out

-- All else stayed, but that a join that went on may have been taken out too.
pub record IsDrained (before now : Store) : Type 0 where
  pub slot : now.slot ≡ before.slot
  pub root : now.root ≡ before.root
  pub listed : now.listed ≡ before.listed
  pub tail : now.tail ≡ before.tail
  pub sound : now.sound ≡ before.sound
  pub catalog : IsEmptied before.catalog now.catalog

-- all rows of the catalog: of its levels and of its newest documents
abbrev pub rows_of : Store → List DocRow
rows_of store = table_rows (levels_of store) ++ (memory_of store.catalog).content.documents

-- A root may be switched to these levels, for whatever ends, number and location agree with a view.
abbrev pub IsGivenBy : View → NextLevels → Type 0
IsGivenBy view levels = (ends : Ends) → (next location : ℕ) → AgreesWith view levels ends next location
    → IsGiven view levels ends next location

-- These levels may be put in place of those of the store as it was before its newest documents were taken out: their rows are some of all
-- rows, in order, the documents of the others are gone, and there are at most 16. A join goes on only where its levels stay.
pub record MayPut (tells : Type 0) (disk : DiskState) (before now : Store) (levels : NextLevels) : Type 0 where
  pub agrees : Agrees tells disk before
  pub drained : IsDrained before now
  pub parts : IsPart levels.oldest × IsPart levels.newest
  pub index : levels.stay_from ≤ length (levels_of before)
  pub few : length (coming levels.oldest) + (length (levels_of before) - levels.stay_from)
      + length (coming levels.newest) ≤ 16
  pub kept : DocRow → Bool
  pub rows : rows_between levels.oldest.documents levels.stay_from (levels_of before) levels.newest.documents
      ≡ filter kept (rows_of before)
  pub gone : All (λ (row : DocRow). kept row ≡ false → ends_among (gone_of before.catalog) row ≡ true) (rows_of before)
  pub given : (o : Opened) → tells → IsOpened o disk.content → (there : List Level) × HaveRows o there
      × IsGivenBy (view_of o there) levels
  pub goes_on : (now.job ≡ None) ⊎ ((levels.stay_from ≡ 0) × (levels.oldest.documents ≡ []) × (now.job ≡ before.job))

-- What is opened becomes what these levels make of it, or a place is wanting.
pub record IsPut (limit : ℕ) (levels : NextLevels) (view : View) (o : Opened)
    (outcome : Result Opened Full) : Type 0 where
  pub ends : Ends
  pub next : ℕ
  pub location : ℕ
  pub given : IsGiven view levels ends next location
  pub comes : ComesTo limit o levels ends next location outcome

-- The levels were put in place of those of before, and the journal is empty.
pub record Puts {T : Type 0} (tells : Type 0) (levels : NextLevels) (before after : DiskState) (store later : Store)
    (result : Result T StoreFault) : Type 0 where
  pub agrees : OnOk result (Agrees tells after later)
  pub sound : OnOk result (is_sound later ≡ is_sound store)
  pub knows : (s : State) → Knows store s → OnOk result (Knows later s)
  pub slot : OnOk result (later.slot ≡ other store.slot)
  pub works : (held : Holding) (job : Option Job) → tells → IsHeld held before.content → IsGivenBy held.view levels
      → OnOk result ((then : Holding) × (switched before.limit held (levels_to_come levels held.view) job ≡ Ok then)
      × IsHeld then after.content)
  pub full : (held : Holding) (job : Option Job) (need gap : ℕ) → tells → IsHeld held before.content
      → IsGivenBy held.view levels
      → result ≡ Err (faults.Full need gap) → switched before.limit held (levels_to_come levels held.view) job
      ≡ Err (record { need = need; gap = gap })
  pub passes : Passes (λ old new. ⊤) before after
  pub images : (held : Holding) → (tells → IsHeld held before.content × IsGivenBy held.view levels)
      → LeavesOnly (StandsFor (state_of held.view)) before after
  pub between : (s : State) → (tells → MaySpeakOf s before.content) → LeavesOnly (MaySpeakOf s) before after
  pub becomes : (o : Opened) (there : List Level) → tells → IsOpened o before.content → HaveRows o there
      → IsGivenBy (view_of o there) levels
      → OnOk result ((p : Opened) × IsPut before.limit levels (view_of o there) o (Ok p)
      × IsOpened p after.content × Keeps later p)
  pub lacks : (o : Opened) (there : List Level) (need gap : ℕ) → tells → IsOpened o before.content → HaveRows o there
      → IsGivenBy (view_of o there) levels
      → result ≡ Err (faults.Full need gap) → IsPut before.limit levels (view_of o there) o
      (Err (record { need = need; gap = gap }))
  pub unwritten : (need gap : ℕ) → result ≡ Err (faults.Full need gap) → after.content ≡ before.content
  pub only : IfErr result (λ e. IsOutside e ⊎ ((need : ℕ) × (gap : ℕ) × (e ≡ faults.Full need gap)))
  pub cause : result ≡ Err faults.Disk → Rose before.faults after.faults
  pub costs : Costs 1 before after
