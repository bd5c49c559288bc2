use Rattle.std.proofs.Common.{◌-◌, length}
use Rattle.alta_content.proofs.SideBySide.{AreRunsTo}
use Rattle.alta_content.proofs.runs.runs_of.Given as goal

abbrev pub invariant-whole : goal.invariant-whole
invariant-whole l = AreRunsTo l.rows l.at l.runs.firsts.items l.runs.ends.items

abbrev pub decreases-whole : goal.decreases-whole
decreases-whole l = length l.rows - l.at
