-- Where an image that has a root breaks the first rule, in the order in which opening tests them.
-- The place is a case of one data type, one a step of opening in its order; steps are functions that answer a value or a place, so
-- that one place follows from one chain.
use Rattle.std.specs.Prelude.{◌≡◌, ◌⊎◌, ℕ, ◌+◌, true, false, List, [], ◌∷◌, ◌++◌, drop, Contains, Ok, Err}
use Rattle.alta_layout.specs.Places.{half_start}
use Rattle.alta_layout.specs.declared.slot.Slot.{Slot}
use Rattle.alta_codec.specs.declared.extent.Extent.{Extent}
use Rattle.alta_journal.specs.Journal.{EndsAt, HasBrokenHalf}
use Rattle.alta_journal.specs.Placed.{placed}
use Rattle.alta_journal.specs.declared.entry.Entry.{Entry}
use Rattle.alta_level.specs.Damage.{data_place, stored_at}
use Rattle.alta_level.specs.Stored.{IsListFault}
use Rattle.alta_root.specs.Slots.{Counts, HasBrokenSlots}
use Rattle.alta_root.specs.declared.root.Root.{Root}
use Rattle.alta_table.specs.Tables.{Tables}
use Rattle.alta_table.specs.Terms.{data_of}
use Rattle.alta_content.specs.declared.document.DocRow.{DocRow}
use Rattle.alta_table.specs.declared.term.TermRow.{TermRow}
use Rattle.alta_meaning.specs.Known.{replayed}
use Rattle.alta_meaning.specs.Opened.{deleted_in, tables_at, are_in_order, names_in, levels_from, levels_in, have_ends, known_at}

-- The slots and the deletion list are fine, and so are the levels before this extent.
pub record ComesTo (root : Root) (deleted : List ℕ) (levels : List Tables) (extent : Extent)
    (image : List ℕ) : Type 0 where
  pub slot : Slot
  pub counts : Counts slot root image
  pub list : deleted_in root image ≡ Ok deleted
  pub before : List Extent
  pub behind : List Extent
  pub split : root.levels.items ≡ before ++ extent ∷ behind
  pub tables : levels_from root deleted [] before image ≡ Ok levels

-- The slots, the deletion list and all levels are fine, each by itself and behind those before it.
pub record HasLevels (slot : Slot) (root : Root) (deleted : List ℕ) (levels : List Tables)
    (image : List ℕ) : Type 0 where
  pub counts : Counts slot root image
  pub list : deleted_in root image ≡ Ok deleted
  pub tables : levels_in root deleted image ≡ Ok levels

-- The first rule that is broken: all steps of opening before this one are fine.
pub data IsBrokenAt (image : List ℕ) : ℕ → Type 0 where
  -- the length of the disk, slot A, slot B, or the sequences of both
  in_slots : (place : ℕ) → HasBrokenSlots image place → IsBrokenAt image place
  -- the stream of the deletion list
  in_list : (slot : Slot) (root : Root) (place : ℕ) → Counts slot root image → deleted_in root image ≡ Err place
      → IsBrokenAt image place
  -- of each level, the oldest first: its head and its tables
  in_tables : (root : Root) (deleted : List ℕ) (levels : List Tables) (extent : Extent) (place : ℕ)
      → ComesTo root deleted levels extent image
      → tables_at extent image ≡ Err place → IsBrokenAt image place
  -- its order behind the levels before it, and against the root
  out_of_order : (root : Root) (deleted : List ℕ) (levels : List Tables) (extent : Extent) (level : Tables)
      → ComesTo root deleted levels extent image
      → tables_at extent image ≡ Ok level → are_in_order root levels level.documents ≡ false
      → IsBrokenAt image extent.place
  -- its live names
  in_names : (root : Root) (deleted : List ℕ) (levels : List Tables) (extent : Extent) (level : Tables) (place : ℕ)
      → ComesTo root deleted levels extent image
      → tables_at extent image ≡ Ok level → are_in_order root levels level.documents ≡ true
      → names_in deleted levels level ≡ Err place → IsBrokenAt image place
  -- the deletion list against the levels
  without_end : (slot : Slot) (root : Root) (deleted : List ℕ) (levels : List Tables)
      → HasLevels slot root deleted levels image
      → have_ends levels deleted ≡ false → IsBrokenAt image root.deletions.place
  -- the records of the journal, each by itself
  in_records : (slot : Slot) (root : Root) (deleted : List ℕ) (levels : List Tables) (place : ℕ)
      → HasLevels slot root deleted levels image
      → have_ends levels deleted ≡ true → HasBrokenHalf root.version (half_start slot) place image
      → IsBrokenAt image place
  -- the entries, each against the documents before it
  in_entries : (slot : Slot) (root : Root) (deleted : List ℕ) (levels : List Tables) (entries : List Entry)
      (tail place : ℕ) → HasLevels slot root deleted levels image
      → have_ends levels deleted ≡ true → EndsAt root.version (half_start slot) tail entries image
      → replayed (known_at root deleted levels) (placed (half_start slot) entries) ≡ Err place → IsBrokenAt image place

-- ---- streams and summaries, which opening does not test

-- One of these lists, whose streams and summaries stand one behind the other from this place on, has its first fault at p.
abbrev pub IsFaultAmong : List DocRow → List TermRow → ℕ → List ℕ → ℕ → Type 0
IsFaultAmong documents [] place image p = ⊥
IsFaultAmong documents (row ∷ rows) place image p =
    IsListFault documents (stored_at row (drop place image) place) p
    ⊎ IsFaultAmong documents rows (place + data_of row) image p

-- a list of this level is broken at a place
abbrev pub IsBrokenIn : Tables → List ℕ → ℕ → Type 0
IsBrokenIn level image place = IsFaultAmong level.documents level.terms (data_place level) image place

-- One of these levels is broken at a place.
pub record IsBrokenAmong (levels : List Tables) (image : List ℕ) (place : ℕ) : Type 0 where
  pub level : Tables
  pub among : Contains levels level
  pub broken : IsBrokenIn level image place
