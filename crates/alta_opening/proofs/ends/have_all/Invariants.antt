use Rattle.std.proofs.Common.{◌≡◌, ◌≤◌, drop, length}
use Rattle.alta_meaning.specs.Opened.{have_ends, table_rows}
use Rattle.alta_opening.specs.Rows.{are_ends}
use Rattle.alta_opening.proofs.ends.have_all.Given as goal

abbrev pub invariant-loop-level : goal.invariant-loop-level
invariant-loop-level l = record {
  within : l.at ≤ length l.deleted;
  passed : have_ends l.levels l.deleted ≡ are_ends (table_rows (drop l.level-index l.levels)) (drop l.at l.deleted);
}
