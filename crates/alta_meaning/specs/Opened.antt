-- What opening finds on a disk, and all rules that it tests. Streams and summaries are not looked at.
use Rattle.std.specs.Prelude.{◌≡◌, ℕ, ◌+◌, nat_lt, Bool, true, ◌&&◌, if◌then◌else◌, List, [], ◌∷◌, ◌++◌, map, Option, Some, None, Result, Ok, Err}
use Rattle.std.specs.List.{flat_map, list_all, list_any}
use Rattle.alta_layout.specs.Places.{half_start}
use Rattle.alta_layout.specs.declared.slot.Slot.{Slot}
use Rattle.alta_codec.specs.declared.extent.Extent.{Extent}
use Rattle.alta_disk.specs.Parts.{part}
use Rattle.alta_journal.specs.Journal.{EndsAt}
use Rattle.alta_journal.specs.Placed.{placed}
use Rattle.alta_journal.specs.declared.entry.Entry.{Entry}
use Rattle.alta_content.specs.Rows.{end_of, ends_among}
use Rattle.alta_postings.specs.Deltas.{first_fault, decoded_list}
use Rattle.alta_postings.specs.declared.fault.StreamFault.{StreamFault}
use Rattle.alta_root.specs.Slots.{Counts}
use Rattle.alta_root.specs.declared.root.Root.{Root}
use Rattle.alta_meaning.specs.Levels.{live_rows}
use Rattle.alta_table.specs.Places.{name_place}
use Rattle.alta_table.specs.Tables.{Tables, tables_of, total_of}
use Rattle.alta_content.specs.declared.document.DocRow.{DocRow}
use Rattle.alta_meaning.specs.Chain.{◌>>=◌}
use Rattle.alta_meaning.specs.Known.{Named, Known, named, is_taken, replayed}

-- What opening finds: the root that counts and its slot, the deleted ends, the tables of its levels, the oldest first, and
-- the entries of its half of the journal, up to the first closed gate.
pub record Opened : Type 0 where
  pub slot : Slot
  pub root : Root
  pub deleted : List ℕ
  pub levels : List Tables
  pub entries : List Entry
  pub tail : ℕ

-- the bytes from a level's place on that its tables, streams and summaries fill
abbrev pub extent_of : Tables → Extent
extent_of level = record { place = level.place; bytes = total_of level.documents level.terms }

-- the bytes of an extent
abbrev pub bytes_at : Extent → List ℕ → List ℕ
bytes_at extent image = part extent.place extent.bytes image

-- ---- the deletion list

-- the list that a stream at a place spells, or the place of the first number that shows that it spells none
abbrev pub list_at : ℕ → List ℕ → Option StreamFault → Result (List ℕ) ℕ
list_at place stream None = Ok (decoded_list stream)
list_at place stream (Some fault) = Err (place + fault.place)

-- the deleted ends of a root, by its deletion list; a root without one names no bytes
unfoldable pub deleted_in : Root → List ℕ → Result (List ℕ) ℕ
deleted_in root image = list_at root.deletions.place (bytes_at root.deletions image)
    (first_fault (bytes_at root.deletions image))

-- ---- a level, behind those before it

-- the rows of levels, in order
abbrev pub table_rows : List Tables → List DocRow
table_rows levels = flat_map (λ (t : Tables). t.documents) levels

-- the live documents of rows
abbrev pub live_in : List ℕ → List DocRow → List Named
live_in deleted rows = map (λ (row : DocRow). named row.name row.number) (live_rows deleted rows)

-- the head and the tables of a level
unfoldable pub tables_at : Extent → List ℕ → Result Tables ℕ
tables_at extent image = tables_of (bytes_at extent image) extent.place extent.bytes

-- the numbers and locations of the second row lie above those of the first
abbrev pub comes_behind : DocRow → DocRow → Bool
comes_behind first second = nat_lt first.number second.number && nat_lt (end_of first) second.first

-- they lie below the next ones of the root
abbrev pub is_below : Root → DocRow → Bool
is_below root row = nat_lt row.number root.next_number && nat_lt (end_of row) root.next_location

-- the numbers and locations of a level lie above those of the levels before it, and below the next ones of the root
abbrev pub are_in_order : Root → List Tables → List DocRow → Bool
are_in_order root levels rows = list_all (λ (row : DocRow). is_below root row
    && list_all (λ (earlier : DocRow). comes_behind earlier row) (table_rows levels)) rows

-- the level, unless it is out of order: that is damage at the place of its extent
abbrev pub in_order : Root → List Tables → Extent → Tables → Result Tables ℕ
in_order root levels extent level = if are_in_order root levels level.documents then Ok level else Err extent.place

-- The names of the rows of a level from this one on, which is row i, behind live documents: the place of the first name of a
-- live row that one of those before has, or else the live documents behind all rows.
abbrev pub names_from : List ℕ → Tables → List Named → ℕ → List DocRow → Result (List Named) ℕ
names_from deleted level live i [] = Ok live
names_from deleted level live i (row ∷ rows) =
    if ends_among deleted row then names_from deleted level live (i + 1) rows
    else (if is_taken row.name live then Err (name_place level i)
    else names_from deleted level (live ++ named row.name row.number ∷ []) (i + 1) rows)

-- the names of a level behind the levels before it
abbrev pub names_in : List ℕ → List Tables → Tables → Result (List Named) ℕ
names_in deleted levels level = names_from deleted level (live_in deleted (table_rows levels)) 0 level.documents

-- one level more: its head and tables, its order, and its live names
abbrev pub with_level : Root → List ℕ → List Tables → Extent → List ℕ → Result (List Tables) ℕ
with_level root deleted levels extent image =
    tables_at extent image >>= λ found.
    in_order root levels extent found >>= λ level.
    names_in deleted levels level >>= λ live.
    Ok (levels ++ level ∷ [])

-- levels of these extents, behind others
abbrev pub levels_from : Root → List ℕ → List Tables → List Extent → List ℕ → Result (List Tables) ℕ
levels_from root deleted levels [] image = Ok levels
levels_from root deleted levels (extent ∷ more) image = with_level root deleted levels extent image
    >>= λ longer. levels_from root deleted longer more image

-- the levels of a root
abbrev pub levels_in : Root → List ℕ → List ℕ → Result (List Tables) ℕ
levels_in root deleted image = levels_from root deleted [] root.levels.items image

-- ---- the deletion list against the levels

-- each deleted end is the end of a document of a level
abbrev pub have_ends : List Tables → List ℕ → Bool
have_ends levels deleted = list_all (λ end. list_any (λ (row : DocRow). ends_among (end ∷ []) row)
    (table_rows levels)) deleted

-- ---- all of it

-- what is known before the entries
abbrev pub known_at : Root → List ℕ → List Tables → Known
known_at root deleted levels = record { next = root.next_number; live = live_in deleted (table_rows levels) }

-- The deletion list, the levels and the journal of a root keep all rules that opening tests, and have this.
pub record IsNamed (opened : Opened) (image : List ℕ) : Type 0 where
  pub list : deleted_in opened.root image ≡ Ok opened.deleted
  pub tables : levels_in opened.root opened.deleted image ≡ Ok opened.levels
  pub ends : have_ends opened.levels opened.deleted ≡ true
  pub journal : EndsAt opened.root.version (half_start opened.slot) opened.tail opened.entries image
  pub known : Known
  pub admitted : replayed (known_at opened.root opened.deleted opened.levels)
      (placed (half_start opened.slot) opened.entries) ≡ Ok known

-- An image is opened as this: the root counts in its slot, and what it names keeps the rules.
pub record IsOpened (opened : Opened) (image : List ℕ) : Type 0 where
  pub counts : Counts opened.slot opened.root image
  pub named : IsNamed opened image
