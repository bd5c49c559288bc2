use Rattle.alta_joins.proofs.MergeRuns.{FillRun}
use Rattle.alta_joins.specs.Reading.{AreFilled}
use Rattle.alta_joins.proofs.merging.fill.Given as goal

abbrev pub invariant-loop-i : goal.invariant-loop-i
invariant-loop-i g l = record {
  run : FillRun g.D.Disk.tells l.levels l.fn.rows l.fn.hand l.rows l.hand (g.D.Disk.state l.fn.disk) (g.D.Disk.state l.disk);
  filled : AreFilled l.i l.levels l.rows l.hand;
}
