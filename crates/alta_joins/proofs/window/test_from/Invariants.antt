use Rattle.std.proofs.Common.{◌-◌, length}
use Rattle.alta_joins.proofs.MergeRuns.{FromRun}
use Rattle.alta_joins.proofs.window.test_from.Given as goal

abbrev pub invariant-loop-row : goal.invariant-loop-row
invariant-loop-row g l = FromRun g.D.Disk.tells l.level l.fn.from l.row (g.D.Disk.state l.fn.disk) (g.D.Disk.state l.disk)

abbrev pub decreases-loop-row : goal.decreases-loop-row
decreases-loop-row g l = length l.level.terms - l.row
