use Rattle.std.proofs.Common.{◌-◌, length}
use Rattle.alta_level.proofs.BlockRows.{AreRowsTo}
use Rattle.alta_level.proofs.writing.read_rows.Given as goal

abbrev pub invariant-stream : goal.invariant-stream
invariant-stream l = AreRowsTo l.stream l.rows.items l.at l.before

abbrev pub decreases-stream : goal.decreases-stream
decreases-stream l = length l.stream - l.at
