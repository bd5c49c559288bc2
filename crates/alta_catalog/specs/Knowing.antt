-- What a catalog knows of a state.
use Rattle.std.specs.Prelude.{◌≡◌, ℕ, ◌+◌, ◌-◌, ◌*◌, ◌≤◌, IsTrue, Contains, List, [], ◌∷◌, ◌++◌, Some, length}
use Rattle.std.specs.List.{All, sum_by}
use Rattle.alta_codec.specs.Rising.{IsRising}
use Rattle.alta_content.specs.Rows.{end_of}
use Rattle.alta_content.specs.declared.document.DocRow.{DocRow}
use Rattle.alta_memlevel.specs.Added.{Added, HasContent, IsSpace, LevelView}
use Rattle.alta_memlevel.specs.Documents.{AreMade, HasDocuments, IsBefore}
use Rattle.alta_machine.specs.declared.document.Document.{Document}
use Rattle.alta_machine.specs.declared.document.State.{State}
use Rattle.alta_meaning.specs.Opened.{table_rows}
use Rattle.alta_machine.specs.Changes.{number_of, words_in}
use Rattle.alta_meaning.specs.Work.{added_from}
use Rattle.alta_journal.specs.declared.entry.Entry.{Entry}
use Rattle.alta_root.specs.declared.root.Root.{Root}
use Rattle.alta_names.specs.Names.{Fits, Numbers}
use Rattle.alta_names.specs.declared.table.NameTable.{NameTable}
use Rattle.alta_catalog.specs.Rows.{AreRowsOf, documents_left}
use Rattle.alta_catalog.specs.declared.catalog.Catalog.{Catalog}
use Rattle.alta_table.specs.Tables.{Tables}
use Rattle.alta_meaning.specs.Known.{known_of}
use Rattle.alta_meaning.specs.Ordered.{IsOrdered}

-- ---- names and numbers

-- each document's number is found by its name
abbrev pub AreFound : Numbers → List Document → Type 0
AreFound known [] = Unit {0}
AreFound known (document ∷ documents) = (known document.name ≡ Some document.number) × AreFound known documents

-- the numbers of the live documents by their names
abbrev pub numbers_in : State → Numbers
numbers_in s name = number_of name s

-- This is the next number of the state, these are its documents, and the table has their names; their numbers rise.
pub record Notes (number : ℕ) (table : NameTable) (kept : List Document) (s : State) : Type 0 where
  pub next : number ≡ s.next
  pub documents : kept ≡ s.documents
  pub names : Fits table (numbers_in s)
  pub ordered : IsOrdered (known_of s)

-- ---- all of it

-- the documents have the numbers from this one on
abbrev pub AreNumbered : ℕ → List Added → Type 0
AreNumbered number [] = Unit {0}
AreNumbered number (a ∷ added) = (a.row.number ≡ number) × AreNumbered (number + 1) added

-- one of these documents has its last cell there
abbrev pub IsEndIn : List Added → ℕ → Type 0
IsEndIn documents end = (a : Added) × Contains documents a × (end_of a.row ≡ end)

-- the rows of a level
abbrev pub documents_of : Tables → List DocRow
documents_of level = level.documents

-- The catalog stands at this state. There are documents of the levels' rows, and those that were added behind them, in memory; those of
-- both whose end is not gone are the state's. It knows their names, how many they are, and how many words they have.
pub record Knows (c : Catalog) (s : State) : Type 0 where
  pub olds : List Added
  pub added : List Added
  pub rows : AreRowsOf (table_rows c.levels.items) olds
  pub sound : IsTrue c.memory.sound
  pub content : HasContent added c.memory.content
  pub made : AreMade added
  pub space : IsSpace (olds ++ added)
  pub filled : All (λ (a : Added). 3 ≤ a.row.cells) (olds ++ added)
  pub behind : All (λ (a : Added). IsBefore c.next c.location a.row) (olds ++ added)
  pub rising : IsRising c.gone
  pub ends : (end : ℕ) → Contains c.gone end → IsEndIn (olds ++ added) end
  pub notes : Notes c.next c.names (documents_left c.gone (olds ++ added)) s
  pub numbered : AreNumbered c.first added
  pub next : c.next ≡ c.first + length added
  pub from : (1 ≤ c.first) × (1 ≤ c.location)
  pub fits : (c.next ≤ 4294967296) × (c.location ≤ 1 + (c.next - 1) * 262146)
  pub count : c.count ≡ length s.documents
  pub words : c.words ≡ words_in s

-- the tables of the catalog's levels
abbrev pub levels_of : Catalog → List Tables
levels_of c = c.levels.items

-- the ends of all documents that are gone
abbrev pub gone_of : Catalog → List ℕ
gone_of c = c.gone

-- the number of the next document
abbrev pub next_of : Catalog → ℕ
next_of c = c.next

-- the location of its first cell
abbrev pub location_of : Catalog → ℕ
location_of c = c.location

-- the level in memory
abbrev pub memory_of : Catalog → LevelView
memory_of c = c.memory

-- The catalog stands at this state, with these documents of the levels' rows.
abbrev pub KnowsBy : Catalog → List Added → State → Type 0
KnowsBy c olds s = (knows : Knows c s) × (knows.olds ≡ olds)

-- The documents of the state are those of the levels' rows whose end is not gone, with these cells, and behind them those of the level in
-- memory; all rows rise.
pub record AreParts (levels : List Tables) (gone : List ℕ) (memory : LevelView) (olds : List Added)
    (s : State) : Type 0 where
  pub rows : AreRowsOf (table_rows levels) olds
  pub newest : List Document
  pub has : HasDocuments gone newest memory
  pub split : s.documents ≡ documents_left gone olds ++ newest

-- the documents that entries add behind a root
abbrev pub newest_of : Root → List Entry → List Added
newest_of root entries = added_from root.next_number root.next_location entries

-- The catalog follows a root by these entries: in memory it has exactly the documents that they add, and goes on behind them.
pub record Follows (c : Catalog) (root : Root) (entries : List Entry) : Type 0 where
  pub first : c.first ≡ root.next_number
  pub content : HasContent (newest_of root entries) c.memory.content
  pub made : AreMade (newest_of root entries)
  pub next : c.next ≡ root.next_number + length (newest_of root entries)
  pub location : c.location ≡ root.next_location + sum_by (λ (a : Added). a.row.cells) (newest_of root entries)
