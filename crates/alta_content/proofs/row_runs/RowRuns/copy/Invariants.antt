use Rattle.std.proofs.Common.{◌≡◌, map, take}
use Rattle.alta_content.specs.All.{rows_of_levels, shared_rows}
use Rattle.alta_content.proofs.row_runs.RowRuns.copy.Given as goal

abbrev pub invariant-loop-run : goal.invariant-loop-run
invariant-loop-run l = l.copies.items ≡ rows_of_levels (map shared_rows (take l.run-index l.run-items))
