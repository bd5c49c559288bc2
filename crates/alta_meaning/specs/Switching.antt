-- What leaves the meaning of an image as it is, and what a switch of the root makes of it.
use Rattle.std.specs.Prelude.{◌≡◌, ◌≤◌, ◌<◌, ◌^◌, ℕ, ◌+◌, true, List, [], ◌∷◌, ◌++◌, length, map, take, None}
use Rattle.std.specs.List.{All}
use Rattle.alta_layout.specs.declared.places.TheConstants.{HALF_BYTES, HEAD_BYTES, SLOTS_BYTES, START_A}
use Rattle.alta_layout.specs.Places.{half_start}
use Rattle.alta_layout.specs.declared.slot.Slot.{Slot}
use Rattle.alta_layout.specs.declared.slot.Slot.TheVariants.{A, B}
use Rattle.alta_codec.specs.declared.extent.Extent.{Extent}
use Rattle.alta_disk.specs.Parts.{Clear}
use Rattle.alta_codec.specs.Bytes.{AreBytes}
use Rattle.alta_journal.specs.Entry.{MayBeRecorded}
use Rattle.alta_journal.specs.Journal.{EndsAt}
use Rattle.alta_journal.specs.Places.{HasClosedGate, half_at}
use Rattle.alta_journal.specs.Record.{record_of, body_of}
use Rattle.alta_journal.specs.declared.entry.Entry.{Entry}
use Rattle.alta_machine.specs.declared.document.State.{State}
use Rattle.alta_postings.specs.Deltas.{Spells}
use Rattle.alta_root.specs.Places.{IsOpen, fields_at}
use Rattle.alta_root.specs.Root.{body_of as slot_body, extents_of, no_extent}
use Rattle.alta_root.specs.Switches.{MayFollow}
use Rattle.alta_root.specs.declared.places.TheConstants.{VERSION}
use Rattle.alta_root.specs.declared.root.Root.{Root}
use Rattle.alta_meaning.specs.Holding.{Holding}
use Rattle.alta_meaning.specs.Levels.{Level}
use Rattle.alta_meaning.specs.Views.{View}
use Rattle.alta_table.specs.Tables.{Tables}
use Rattle.alta_meaning.specs.Known.{Known, admits}
use Rattle.alta_meaning.specs.Opened.{Opened, IsNamed, bytes_at, have_ends, table_rows}
use Rattle.alta_meaning.specs.Ordered.{AreBelow, RowsPrecede}
use Rattle.alta_meaning.specs.Standing.{AreLevels, Means, tables_by}

-- These ranges meet nothing that a root in this slot names: neither its half of the journal nor one of its extents.
pub record Spares (ranges : List (ℕ × ℕ)) (slot : Slot) (root : Root) : Type 0 where
  pub half : Clear (half_start slot) HALF_BYTES ranges
  pub extents : All (λ (e : Extent). Clear e.place e.bytes ranges) (extents_of root)

-- These ranges meet neither slot.
abbrev pub SparesSlots : List (ℕ × ℕ) → Type 0
SparesSlots ranges = Clear 0 SLOTS_BYTES ranges

-- Another root may follow the one that counts, and all that it names is there: its image is opened as this once it counts.
pub record MayOpen (coming : Opened) (image : List ℕ) : Type 0 where
  pub follows : MayFollow coming.slot coming.root image
  pub named : IsNamed coming image

-- Another root may follow the one that counts, and all that it names is there, and means this state.
pub record MayStand (s : State) (coming : Opened) (image : List ℕ) : Type 0 where
  pub follows : MayFollow coming.slot coming.root image
  pub means : Means s coming image

-- ---- an entry more

-- what is opened once an entry is appended
abbrev pub with_entry : Opened → Entry → Opened
with_entry o entry = record o { entries = o.entries ++ entry ∷ []; tail = o.tail + length (record_of entry) }

-- An entry may be appended: it is admitted behind those that are there, the root's version allows its record, and this fits in
-- the half, with the next gate.
pub record MayAppend (entry : Entry) (o : Opened) (known : Known) : Type 0 where
  pub admitted : admits known entry ≡ true
  pub recorded : MayBeRecorded o.root.version entry
  pub fits : o.tail + (1 + length (body_of entry)) ≤ half_start o.slot + HALF_BYTES

-- ---- a disk without documents

abbrev pub empty_root : Root
empty_root = record {
  version = VERSION;
  sequence = 0;
  next_number = 1;
  next_location = 1;
  levels = record { items = [] };
  deletions = no_extent;
}

-- what a disk without documents is opened as
abbrev pub empty_opened : Opened
empty_opened = record { slot = A; root = empty_root; deleted = []; levels = []; entries = []; tail = START_A }

-- what is held of it: no level, no deleted end, no entry and no job, and the first number and location come next
abbrev pub empty_held : Holding
empty_held =
    record {
      view = record { version = VERSION; next = 1; location = 1; levels = []; deleted = []; entries = [] };
      list = no_extent;
      job = None;
    }

-- The first slot is open, and says the root without documents; the second is closed, and so is the first gate of the journal.
pub record IsFormatted (image : List ℕ) : Type 0 where
  pub whole : HEAD_BYTES ≤ length image
  pub first : IsOpen A image
  pub fields : fields_at A image ≡ take (length (fields_at A image)) (slot_body empty_root)
  pub long : length (fields_at A image) ≡ 295
  pub second : IsOpen B image → ⊥
  pub closed : HasClosedGate 0 (half_at START_A image)

-- ---- a root that was written

-- Levels and deleted ends are in place under a root: all rows rise, lie below its next number and location, and each deleted
-- end is one of theirs.
pub record InPlace (root : Root) (deleted : List ℕ) (levels : List Tables) : Type 0 where
  pub rise : RowsPrecede (table_rows levels)
  pub below : AreBelow root (table_rows levels)
  pub ends : have_ends levels deleted ≡ true

-- A view's levels and deleted ends are in place under each root with its next number and location.
abbrev pub IsInPlace : View → Type 0
IsInPlace view = (root : Root) → root.next_number ≡ view.next → root.next_location ≡ view.location
    → InPlace root view.deleted (map tables_by view.levels)

-- What a root to come names was put on the disk: its levels, its deletion list, and the first gate of its half, which is closed.
pub record IsPut (coming : Opened) (levels : List Level) (image : List ℕ) : Type 0 where
  pub follows : MayFollow coming.slot coming.root image
  pub are : AreLevels coming levels image
  pub bytes : All (λ (l : Level). AreBytes (bytes_at l.extent image)
      × (length (bytes_at l.extent image) ≡ l.extent.bytes) × (l.extent.bytes < 2 ^ 64)) levels
  pub list : Spells (bytes_at coming.root.deletions image) coming.deleted
  pub empty : coming.entries ≡ []
  pub journal : EndsAt coming.root.version (half_start coming.slot) coming.tail [] image

-- It was put there, and is in place.
pub record IsWritten (coming : Opened) (levels : List Level) (image : List ℕ) : Type 0 where
  pub put : IsPut coming levels image
  pub place : InPlace coming.root coming.deleted coming.levels
