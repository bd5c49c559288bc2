use Rattle.std.proofs.Common.{◌≡◌, ◌++◌, map}
use Rattle.alta_content.specs.All.{rows_of_levels, shared_rows}
use Rattle.alta_catalog.proofs.sharing.with_runs.Given as goal

abbrev pub invariant-loop-run : goal.invariant-loop-run
invariant-loop-run l = rows_of_levels (map shared_rows l.all.items) ++ rows_of_levels (map shared_rows l.run-iterator.rest.items) ≡ rows_of_levels (map shared_rows l.fn.runs.items) ++ rows_of_levels (map shared_rows l.fn.more.items)
