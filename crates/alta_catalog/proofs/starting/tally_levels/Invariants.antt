use Rattle.std.proofs.Common.{◌+◌, ◌≤◌, drop, take}
use Rattle.alta_meaning.specs.Opened.{table_rows}
use Rattle.alta_catalog.specs.Counting.{IsTally, cells_in}
use Rattle.alta_catalog.proofs.starting.tally_levels.Given as goal

abbrev pub invariant-loop-level : goal.invariant-loop-level
invariant-loop-level l = record {
  counted : IsTally l.gone (table_rows (take l.level-index l.levels)) l.tally;
  documents : l.tally.documents + cells_in (table_rows (drop l.level-index l.levels)) ≤ cells_in (table_rows l.levels);
  words : l.tally.words + cells_in (table_rows (drop l.level-index l.levels)) ≤ cells_in (table_rows l.levels);
}
