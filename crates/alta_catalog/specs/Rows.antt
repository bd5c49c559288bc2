-- The documents of the rows of levels, and the states that what is opened may speak of.
use Rattle.std.specs.Prelude.{◌≡◌, ℕ, List, length, map}
use Rattle.std.specs.List.{All}
use Rattle.alta_content.specs.declared.document.DocRow.{DocRow}
use Rattle.alta_meaning.specs.Entries.{after_entries}
use Rattle.alta_meaning.specs.Opened.{Opened, table_rows}
use Rattle.alta_memlevel.specs.Added.{Added, live_of}
use Rattle.alta_memlevel.specs.Documents.{document_in}
use Rattle.alta_machine.specs.declared.document.Document.{Document}
use Rattle.alta_machine.specs.declared.document.State.{State}
use Rattle.alta_root.specs.declared.root.Root.{Root}
use Rattle.alta_table.specs.Tables.{Tables}

-- These are documents of these rows, each with any cells, so many as its row says.
pub record AreRowsOf (rows : List DocRow) (documents : List Added) : Type 0 where
  pub rows_are : map (λ (a : Added). a.row) documents ≡ rows
  pub counted : All (λ (a : Added). length a.cells ≡ a.row.cells) documents

-- the documents whose end is not one of these
abbrev pub documents_left : List ℕ → List Added → List Document
documents_left gone added = map document_in (live_of gone added)

-- A root with these deleted ends and these levels may speak of the state, before the entries: its documents are those of the rows that
-- are not deleted. Of their cells the count alone is known.
pub record MayStart (s : State) (root : Root) (deleted : List ℕ) (levels : List Tables) : Type 0 where
  pub olds : List Added
  pub rows : AreRowsOf (table_rows levels) olds
  pub state_is : s ≡ record { next = root.next_number; documents = documents_left deleted olds }

-- What is opened may speak of the state: it is one that its root may speak of, and then its entries in order.
pub record MayBe (s : State) (o : Opened) : Type 0 where
  pub start : State
  pub starts : MayStart start o.root o.deleted o.levels
  pub state_is : s ≡ after_entries start o.entries
