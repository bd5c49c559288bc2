use Rattle.std.proofs.Common.{◌≡◌, map, take}
use Rattle.alta_content.specs.All.{shared_rows}
use Rattle.alta_content.proofs.row_runs.share_runs.Given as goal

abbrev pub invariant-loop-run : goal.invariant-loop-run
invariant-loop-run l = map shared_rows l.shared.items ≡ map shared_rows (take l.run-index l.runs)
