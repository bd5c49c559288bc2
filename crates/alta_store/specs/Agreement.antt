-- A store and its disk.
use Rattle.std.specs.Prelude.{◌≡◌, ◌⊎◌, ℕ, ◌≤◌, ◌<◌, true, List, Bool, map, Option, Some, None}
use Rattle.std.specs.List.{All}
use Rattle.alta_layout.specs.declared.places.TheConstants.{HEAD_BYTES}
use Rattle.alta_layout.specs.Places.{half_start}
use Rattle.alta_content.specs.Rows.{AreDocuments, end_of}
use Rattle.alta_content.specs.declared.document.DocRow.{DocRow}
use Rattle.alta_disk.specs.Disk.{DiskState, Only}
use Rattle.alta_meaning.specs.Holding.{Holding, IsHeld, IsWell}
use Rattle.alta_meaning.specs.Opened.{Opened, IsOpened, table_rows, extent_of}
use Rattle.alta_meaning.specs.Work.{Job}
use Rattle.alta_joins.specs.Jobs.{AreJoinedOn, IsJoining, IsMerging}
use Rattle.alta_journal.specs.Journal.{StandsAhead}
use Rattle.alta_journal.specs.Places.{left_behind}
use Rattle.alta_journal.specs.declared.entry.Entry.{Entry}
use Rattle.alta_merge.specs.Merging.{Merging}
use Rattle.alta_machine.specs.declared.document.State.{State}
use Rattle.alta_catalog.specs.Knowing.{Follows, Knows as CatalogKnows, KnowsBy, gone_of, levels_of as levels_in}
use Rattle.alta_catalog.specs.Rows.{MayBe}
use Rattle.alta_table.specs.Tables.{Tables}
use Rattle.alta_store.specs.declared.store.Store.{Store}

-- the store's catalog stands at this state
abbrev pub Knows : Store → State → Type 0
Knows store s = CatalogKnows store.catalog s

-- the tables of the store's levels
abbrev pub levels_of : Store → List Tables
levels_of store = levels_in store.catalog

-- The store goes on with what is opened: the root that counts, where its journal ends, its levels, which fill the extents of the root,
-- the ends that its deletion list has, and the documents that the entries add; and it knows each state that it may speak of.
pub record Keeps (store : Store) (opened : Opened) : Type 0 where
  pub slot : store.slot ≡ opened.slot
  pub root : store.root ≡ opened.root
  pub listed : store.listed.items ≡ opened.deleted
  pub half : store.tail.slot ≡ opened.slot
  pub place : store.tail.place ≡ opened.tail
  pub levels : levels_of store ≡ opened.levels
  pub extents : map extent_of opened.levels ≡ opened.root.levels.items
  pub follows : Follows store.catalog opened.root opened.entries
  pub knows : (s : State) → (may : MayBe s opened) → KnowsBy store.catalog may.starts.olds s

-- The image is opened, and the store goes on with what it is opened as.
pub record KeepsOpened (store : Store) (image : List ℕ) : Type 0 where
  pub opened : Opened
  pub is : IsOpened opened image
  pub keeps : Keeps store opened

-- The image is opened as what may speak of the state, whatever the lists of its levels are: it has the state's next number, and the names,
-- numbers and lengths of its documents; and of those that entries of the journal add the cells.
pub record MaySpeakOf (s : State) (image : List ℕ) : Type 0 where
  pub opened : Opened
  pub is : IsOpened opened image
  pub may : MayBe s opened

-- the image may speak of one of two states
abbrev pub MaySpeakOfEither : State → State → List ℕ → Type 0
MaySpeakOfEither before later image = MaySpeakOf before image ⊎ MaySpeakOf later image

-- A join may go on over the two oldest of these levels.
abbrev pub MayGoOn : List Tables → List ℕ → Option Merging → Type 0
MayGoOn levels gone None = Unit {0}
MayGoOn levels gone (Some merging) = IsJoining levels gone merging

-- It joins the contents that these levels have on an image.
abbrev pub GoesOnOver : (image : List ℕ) (levels : List Tables) (gone : List ℕ) (job : Option Merging)
    → MayGoOn levels gone job → Type 0
GoesOnOver image levels gone None joining = Unit {0}
GoesOnOver image levels gone (Some merging) joining = AreJoinedOn image joining

-- Also where the disk does not tell what it holds: the store's catalog stands at some state, and follows the root by some entries, behind
-- the documents of its levels, which fill the extents of the root. A join that goes on is one over the two oldest.
pub record IsIntact (store : Store) : Type 0 where
  pub state : State
  pub knows : Knows store state
  pub entries : List Entry
  pub follows : Follows store.catalog store.root entries
  pub below : All (λ (row : DocRow). (row.number < store.root.next_number) × (end_of row < store.root.next_location))
      (table_rows (levels_of store))
  pub documents : AreDocuments (table_rows (levels_of store))
  pub extents : map extent_of (levels_of store) ≡ store.root.levels.items
  pub joining : MayGoOn (levels_of store) (gone_of store.catalog) store.job

-- Store and disk agree: nothing is pending, the store goes on with what the content is opened as, and joins what is there. Where a body
-- was written ahead, it stands behind the closed gate of the journal.
pub record Agrees (tells : Type 0) (disk : DiskState) (store : Store) : Type 0 where
  pub settled : Only disk.content disk.images
  pub content : tells → KeepsOpened store disk.content
  pub intact : IsIntact store
  pub joins : tells → GoesOnOver disk.content (levels_of store) (gone_of store.catalog) store.job intact.joining
  pub ahead : tells → StandsAhead store.tail.place store.ahead disk.content

-- ---- what is held

-- the join that goes on is that of the job
abbrev pub IsJobIn : Option Merging → Option Job → Type 0
IsJobIn None None = Unit {0}
IsJobIn None (Some job) = ⊥
IsJobIn (Some merging) None = ⊥
IsJobIn (Some merging) (Some job) = IsMerging merging job

-- The store has what is held of an image, which is well formed: the job is the join that goes on.
pub record Has (store : Store) (held : Holding) (image : List ℕ) : Type 0 where
  pub is : IsHeld held image
  pub job : IsJobIn store.job held.job
  pub well : IsWell held

-- how many bytes are left in the journal behind the gate of the next record
abbrev pub room_of : Store → ℕ
room_of store = left_behind (half_start store.tail.slot) store.tail.place

-- the journal has no entry
abbrev pub HasNoEntry : Store → Type 0
HasNoEntry store = store.tail.place ≡ half_start store.tail.slot

-- whether the store may be used
abbrev pub is_sound : Store → Bool
is_sound store = store.sound

-- Documents may be added: the store may be used, it agrees with its disk, and the disk may be long enough.
pub record CanAdd (tells : Type 0) (disk : DiskState) (store : Store) : Type 0 where
  pub sound : is_sound store ≡ true
  pub agrees : Agrees tells disk store
  pub limit : HEAD_BYTES ≤ disk.limit
