-- What is kept of the levels that were opened so far.
use Rattle.std.specs.Prelude.{◌≡◌, ℕ, List}
use Rattle.alta_content.specs.Rows.{AreDocuments, start}
use Rattle.alta_meaning.specs.Opened.{known_at, live_in, table_rows}
use Rattle.alta_meaning.specs.Ordered.{AreBelow, IsOrdered}
use Rattle.alta_root.specs.declared.root.Root.{Root}
use Rattle.alta_meaning.specs.Names.{AreNames}
use Rattle.alta_opening.specs.Rows.{behind_rows, left_by}
use Rattle.alta_opening.specs.declared.levels.Levels.{Levels}

-- The rows of all levels rise as those of one level do, and lie below the next ones of the root; their last number and end are kept,
-- and the names of those that are live, which differ.
pub record HasReached (root : Root) (deleted : List ℕ) (found : Levels) : Type 0 where
  pub rows : AreDocuments (table_rows found.levels.items)
  pub below : AreBelow root (table_rows found.levels.items)
  pub ordered : IsOrdered (known_at root deleted found.levels.items)
  pub last : left_by found.last ≡ behind_rows start (table_rows found.levels.items)
  pub names : AreNames found.names (live_in deleted (table_rows found.levels.items))
