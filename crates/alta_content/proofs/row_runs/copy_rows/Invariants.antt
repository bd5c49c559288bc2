use Rattle.std.proofs.Common.{◌≡◌, ◌++◌, take}
use Rattle.alta_content.proofs.row_runs.copy_rows.Given as goal

abbrev pub invariant-loop-row : goal.invariant-loop-row
invariant-loop-row l = l.copies.items ≡ l.fn.copies.items ++ take l.row-index l.rows
