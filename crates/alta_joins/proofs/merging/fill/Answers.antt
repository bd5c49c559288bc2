use Rattle.alta_joins.proofs.MergeRuns.{fill_on, reads_done, reads_failed}
use Rattle.alta_joins.proofs.merging.fill.Goals as goal

pub fill_one-requires-clause-merged : goal.fill_one-requires-clause-merged
fill_one-requires-clause-merged g c =
    let m = c.requires.merged in
    (m.0, m.1, m.2, m.3, c.loop-i.invariant.run.merged m.0 m.1 m.2 m.3 m.4)

pub loop-i-preserved : goal.loop-i-preserved
loop-i-preserved g c = record {
  run = fill_on g.D.Disk.tells c.args.levels.now c.args.rows.now c.args.hand.now c.loop-i.rows c.loop-i.hand (g.D.Disk.state c.args.disk.now) (g.D.Disk.state c.loop-i.disk) c.loop-i.invariant.run
      (g.D.Disk.state c.fill_one.new.disk) c.fill_one.new.rows c.fill_one.new.hand c.in-Ok.ensures.fills.merged c.in-Ok.ensures.fills.reads.cost;
  filled = c.in-Ok.ensures.filled c.loop-i.invariant.filled;
}

pub returns-in-Err-clause-fills : goal.returns-in-Err-clause-fills
returns-in-Err-clause-fills g c =
    let run = c.loop-i.invariant.run in
    record {
      merged = λ image newest spans made m. tt;
      reads = reads_failed g.D.Disk.tells c.args.levels.now c.args.rows.now c.loop-i.rows (g.D.Disk.state c.args.disk.now) (g.D.Disk.state c.loop-i.disk) (run.spent, run.reads, run.left)
          (Unit {0}) (Unit {0}) c.in-Err.fault c.fill_one.new.rows (g.D.Disk.state c.fill_one.new.disk) c.in-Err.ensures.fills.reads;
    }

pub returns-clause-fills : goal.returns-clause-fills
returns-clause-fills g c =
    let run = c.loop-i.invariant.run in
    record {
      merged = run.merged;
      reads = reads_done g.D.Disk.tells c.args.levels.now c.args.rows.now c.loop-i.rows (g.D.Disk.state c.args.disk.now) (g.D.Disk.state c.loop-i.disk) (run.spent, run.reads, run.left) (Unit {0}) tt;
    }
