use Rattle.std.proofs.Common.{◌≡◌, ◌+◌, map, take, length}
use Rattle.alta_content.specs.All.{shared_rows, rows_of_levels}
use Rattle.alta_content.proofs.all.row_in.Given as goal

abbrev pub invariant-loop-level : goal.invariant-loop-level
invariant-loop-level l = l.index ≡ length (rows_of_levels (map shared_rows (take l.level-index l.levels))) + l.left
