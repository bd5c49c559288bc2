use Rattle.alta_joins.proofs.MergeRuns.{MergeRun}
use Rattle.alta_joins.proofs.merging.merge_lists.Given as goal

abbrev pub invariant-loop-term : goal.invariant-loop-term
invariant-loop-term g l = MergeRun g.D.Disk.tells l.levels l.spans l.fn.rows l.fn.hand l.fn.made l.rows l.hand l.made (g.D.Disk.state l.fn.disk) (g.D.Disk.state l.disk)
