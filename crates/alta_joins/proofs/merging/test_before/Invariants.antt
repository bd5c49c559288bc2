use Rattle.alta_joins.proofs.MergeRuns.{TestRun}
use Rattle.alta_joins.proofs.merging.test_before.Given as goal

abbrev pub invariant-loop-i : goal.invariant-loop-i
invariant-loop-i g l = TestRun g.D.Disk.tells l.levels l.rows l.i (g.D.Disk.state l.fn.disk) (g.D.Disk.state l.disk)
