use Rattle.std.proofs.Common.{◌≡◌, ◌<◌, ◌≤◌, drop, length}
use Rattle.alta_joins.specs.Reading.{rows_between}
use Rattle.alta_level.proofs.Progress.{Progress}
use Rattle.alta_joins.proofs.level.lists_in.Given as goal

abbrev pub invariant-loop-row : goal.invariant-loop-row
invariant-loop-row l = record {
  read : Progress l.level.documents (rows_between l.level l.from l.to) l.fn.bytes.items l.fn.place l.lists (rows_between l.level l.row l.to)
      (drop l.front l.rest.items) l.at;
  within : l.front ≤ length l.rest.items;
  tables : l.cursor.tables ≡ l.level;
  here : l.row < l.to → l.cursor.row ≡ l.row;
}
