-- What the call that switches the root asks, and what it does.
use Rattle.std.specs.Prelude.{◌≡◌, ◌≤◌, ◌+◌, ◌-◌, ◌*◌, ◌++◌, ⊤, ℕ, List, [], length, map, drop, Option, None, Result, Err, IfOk, OnOk}
use Rattle.std.specs.List.{All}
use Rattle.alta_layout.specs.declared.places.TheConstants.{HEAD_BYTES}
use Rattle.alta_layout.specs.Places.{other}
use Rattle.alta_layout.specs.declared.slot.Slot.{Slot}
use Rattle.alta_codec.specs.Faults.{Rose}
use Rattle.alta_codec.specs.Rising.{IsRising}
use Rattle.alta_codec.specs.declared.extent.Extent.{Extent}
use Rattle.alta_content.specs.Parts.{IsPart}
use Rattle.alta_disk.specs.Calls.{Costs}
use Rattle.alta_disk.specs.Disk.{DiskState, LeavesOnly, Only, Passes}
use Rattle.alta_meaning.specs.Holding.{Holding}
use Rattle.alta_meaning.specs.Levels.{Level}
use Rattle.alta_meaning.specs.Opened.{Opened, bytes_at, table_rows, extent_of}
use Rattle.alta_meaning.specs.Standing.{StandsFor}
use Rattle.alta_meaning.specs.Views.{state_of}
use Rattle.alta_meaning.specs.Work.{Job, coming}
use Rattle.alta_meaning.specs.Working.{switched}
use Rattle.alta_root.specs.Slots.{Counts}
use Rattle.alta_root.specs.declared.places.TheConstants.{DOCUMENT_CELLS, LAST_NEXT, VERSION}
use Rattle.alta_root.specs.declared.root.Root.{Root}
use Rattle.alta_rewrite.specs.Drafts.{rewrite_places}
use Rattle.alta_rewrite.specs.Rewrites.{IsRewritten, IsRewrittenOpened, MayBecome, MayRewrite, MayRewriteOpened, levels_to_come, tables_in}
use Rattle.alta_rewrite.specs.declared.ends.Ends.{Ends}
use Rattle.alta_rewrite.specs.declared.fault.RewriteFault.{RewriteFault}
use Rattle.alta_rewrite.specs.declared.fault.RewriteFault.TheVariants as faults
use Rattle.alta_rewrite.specs.declared.levels.NextLevels.{NextLevels}
use Rattle.alta_rewrite.specs.declared.rewriting.Rewritten.{Rewritten}

-- ---- what is asked

-- Nothing is pending on the disk, the root counts in the slot, and the disk may be long enough.
pub record CanSwitch (tells : Type 0) (slot : Slot) (root : Root) (disk : DiskState) : Type 0 where
  pub settled : Only disk.content disk.images
  pub counts : tells → Counts slot root disk.content
  pub limit : HEAD_BYTES ≤ disk.limit

-- A root may name these levels, with these deleted ends, and with this number and location behind all documents.
pub record CanName (root : Root) (levels : NextLevels) (ends : Ends) (next location : ℕ) : Type 0 where
  pub oldest : IsPart levels.oldest
  pub newest : IsPart levels.newest
  pub index : levels.stay_from ≤ length root.levels.items
  pub few : length (coming levels.oldest) + (length root.levels.items - levels.stay_from)
      + length (coming levels.newest) ≤ 16
  pub rising : IsRising ends.deleted.now
  pub number_is : (1 ≤ next) × (next ≤ LAST_NEXT)
  pub location_is : (1 ≤ location) × (location ≤ 1 + (next - 1) * DOCUMENT_CELLS)

-- ---- what is done

-- Of what is held of the content: what is held then; where no place is left, the switch wants the same; and at each moment of the call an
-- image stands for the state that it has.
pub record RewritesHeld (tells : Type 0) (slot : Slot) (levels : NextLevels) (ends : Ends) (next location : ℕ)
    (before after : DiskState) (result : Result Rewritten RewriteFault) : Type 0 where
  pub works : (held : Holding) → (job : Option Job) → tells → MayRewrite held levels ends next location before.content
      → IfOk result (λ done. (then : Holding) × IsRewritten before.limit slot held levels job then done after.content)
  pub full : (held : Holding) → (job : Option Job) → tells
      → MayRewrite held levels ends next location before.content → (need gap : ℕ)
      → result ≡ Err (faults.Full need gap) → switched before.limit held (levels_to_come levels held.view) job
      ≡ Err (record { need = need; gap = gap })
  pub stands : (held : Holding) → (tells → MayRewrite held levels ends next location before.content)
      → LeavesOnly (StandsFor (state_of held.view)) before after

-- The same of what the content is opened as, where the streams of levels that stay may be damaged: at each moment an image is opened as
-- before or as what comes, and as the latter once the call is done.
pub record RewritesOpened (tells : Type 0) (levels : NextLevels) (ends : Ends) (next location : ℕ)
    (before after : DiskState) (result : Result Rewritten RewriteFault) : Type 0 where
  pub opened : (o : Opened) → (there : List Level)
      → (tells → MayRewriteOpened o there levels ends next location before.content)
      → LeavesOnly (MayBecome before.limit o levels ends next location) before after
  pub opened_then : (o : Opened) → (there : List Level) → tells
      → MayRewriteOpened o there levels ends next location before.content
      → IfOk result (λ done. (coming : Opened)
      × IsRewrittenOpened before.limit o coming levels ends next location done after.content)

-- What is answered: the other slot, and a root of the last version with this number and location. The answered tables have the rows of the
-- levels that came anew, and the extents of the root are theirs and those that stay. A level comes in front only where it has documents.
pub record AnswersRoot (slot : Slot) (root : Root) (levels : NextLevels) (next location : ℕ)
    (done : Rewritten) : Type 0 where
  pub counts : (done.slot ≡ other slot) × (done.root.next_number ≡ next) × (done.root.next_location ≡ location)
  pub version : done.root.version ≡ VERSION
  pub rows : (table_rows (tables_in done.oldest) ≡ levels.oldest.documents)
      × (table_rows (tables_in done.newest) ≡ levels.newest.documents)
  pub extents : done.root.levels.items ≡ map extent_of (tables_in done.oldest)
      ++ (drop levels.stay_from root.levels.items ++ map extent_of (tables_in done.newest))
  pub none : levels.oldest.documents ≡ [] → done.oldest ≡ None

-- Why nothing was written: there was too little memory, or a level or the list has no place.
pub record WritesNothing {D : Type 0} (limit : ℕ) (root : Root) (levels : NextLevels) (ends : Ends) (before after : D)
    (result : Result Rewritten RewriteFault) : Type 0 where
  pub memory : result ≡ Err faults.Memory → after ≡ before
  pub unwritten : (need gap : ℕ) → result ≡ Err (faults.Full need gap) → after ≡ before
  pub why : (need gap : ℕ) → result ≡ Err (faults.Full need gap) → rewrite_places limit root levels ends
      ≡ Err (record { need = need; gap = gap })

-- What the call makes of the disk: each image at any moment comes from one of before; once it is done nothing is pending, and the levels
-- of the root that counted have their bytes. A call of the disk that failed is counted, and one byte is read at most.
pub record SwitchesDisk (tells : Type 0) (root : Root) (before after : DiskState)
    (result : Result Rewritten RewriteFault) : Type 0 where
  pub images : Passes (λ old new. ⊤) before after
  pub durable : OnOk result (Only after.content after.images)
  pub spared : tells
      → OnOk result (All (λ (e : Extent). bytes_at e after.content ≡ bytes_at e before.content) root.levels.items)
  pub cause : result ≡ Err faults.Disk → Rose before.faults after.faults
  pub costs : Costs 1 before after
