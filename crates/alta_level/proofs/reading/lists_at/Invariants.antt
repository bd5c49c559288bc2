use Rattle.std.proofs.Common.{◌≡◌, ◌<◌, drop, length}
use Rattle.alta_level.proofs.Progress.{Progress}
use Rattle.alta_level.proofs.reading.lists_at.Given as goal

abbrev pub invariant-loop-row : goal.invariant-loop-row
invariant-loop-row l = record {
  read : Progress l.documents l.table.terms l.fn.streams l.fn.place l.lists (drop l.row l.table.terms) l.rest l.at;
  tables : l.cursor.tables ≡ l.table;
  here : l.row < length l.table.terms → l.cursor.row ≡ l.row;
}
