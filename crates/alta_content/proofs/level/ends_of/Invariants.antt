use Rattle.std.proofs.Common.{◌≡◌, map, take}
use Rattle.alta_content.specs.Rows.{end_of}
use Rattle.alta_content.proofs.level.ends_of.Given as goal

abbrev pub invariant-loop-row : goal.invariant-loop-row
invariant-loop-row l = l.ends.items ≡ map end_of (take l.row-index l.rows)
