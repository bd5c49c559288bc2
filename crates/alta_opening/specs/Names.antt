-- The names of live documents, level by level.
use Rattle.std.specs.Prelude.{ℕ, Bool, not, ◌||◌, ◌++◌, List}
use Rattle.alta_content.specs.Rows.{ends_among}
use Rattle.alta_content.specs.declared.document.DocRow.{DocRow}
use Rattle.alta_meaning.specs.Known.{Named, is_taken}
use Rattle.alta_meaning.specs.Opened.{live_in, table_rows}
use Rattle.alta_table.specs.Tables.{Tables}

-- the row's document is deleted, or none of these has its name
abbrev pub may_join : List ℕ → List Named → DocRow → Bool
may_join deleted live row = ends_among deleted row || not (is_taken row.name live)

-- the live documents of levels, and of rows behind them
abbrev pub live_behind : List ℕ → List Tables → List DocRow → List Named
live_behind deleted levels rows = live_in deleted (table_rows levels) ++ live_in deleted rows
