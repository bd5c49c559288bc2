-- The snapshot of levels and of the newest documents.
use Rattle.std.specs.Prelude.{ℕ, List, ◌++◌, map}
use Rattle.alta_content.specs.declared.content.Content.{Content}
use Rattle.alta_content.specs.declared.document.DocRow.{DocRow}
use Rattle.alta_meaning.specs.Opened.{table_rows}
use Rattle.alta_loading.specs.Met.{keys_met, lists_met}
use Rattle.alta_machine.specs.declared.test.Test.{Test}
use Rattle.alta_search.specs.View.{View}
use Rattle.alta_table.specs.Tables.{Tables}

-- the rows of levels, the oldest first, and behind them those of the newest documents
abbrev pub all_rows : List Tables → Content → List DocRow
all_rows levels newest = table_rows levels ++ newest.documents

-- of each test exactly the terms that meet it, each with its lists as they stand on the image and in the newest documents, and all
-- rows and the deleted ends
abbrev pub loaded_view : List Tables → Content → List ℕ → List Test → List ℕ → View
loaded_view levels newest image tests gone = record {
  tests = tests;
  keys = map (keys_met levels newest) tests;
  cuts = map (lists_met levels newest image) tests;
  rows = all_rows levels newest;
  gone = gone;
}
