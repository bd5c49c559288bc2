use Rattle.std.proofs.Common.{◌+◌, ◌≤◌, ◌++◌, List, drop, take}
use Rattle.alta_content.specs.declared.document.DocRow.{DocRow}
use Rattle.alta_catalog.specs.Counting.{IsTally, cells_in}
use Rattle.alta_catalog.proofs.starting.tally_rows.Given as goal

abbrev pub invariant-loop-row : goal.invariant-loop-row
invariant-loop-row l = record {
  counted : (before : List DocRow) → IsTally l.gone before l.fn.start → IsTally l.gone (before ++ take l.row-index l.rows) l.tally;
  documents : l.tally.documents + cells_in (drop l.row-index l.rows) ≤ l.fn.start.documents + cells_in l.rows;
  words : l.tally.words + cells_in (drop l.row-index l.rows) ≤ l.fn.start.words + cells_in l.rows;
}
