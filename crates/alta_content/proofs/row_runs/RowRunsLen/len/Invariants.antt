use Rattle.std.proofs.Common.{◌≡◌, ◌+◌, map, length, take}
use Rattle.alta_content.specs.All.{rows_of_levels, shared_rows}
use Rattle.alta_content.proofs.row_runs.RowRunsLen.len.Given as goal

abbrev pub invariant-loop-run : goal.invariant-loop-run
invariant-loop-run l = record {
  whole : length l.self ≡ length (rows_of_levels (map shared_rows l.run-items)) + l.initial.count;
  counted : l.count ≡ length (rows_of_levels (map shared_rows (take l.run-index l.run-items))) + l.initial.count;
}
