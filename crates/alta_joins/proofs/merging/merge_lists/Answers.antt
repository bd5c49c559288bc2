use Rattle.std.proofs.Common.{Bool}
use Rattle.alta_joins.proofs.MergeRuns.{merge_on, reads_done, reads_failed, reads_wanting}
use Rattle.alta_joins.proofs.MergeSteps.{all_merged}
use Rattle.alta_joins.proofs.merging.merge_lists.Goals as goal

pub loop-term-preserved : goal.loop-term-preserved
loop-term-preserved g c =
    merge_on g.D.Disk.tells c.args.levels.now c.args.spans.now c.args.rows.now c.args.hand.now c.args.made.now c.loop-term.rows c.loop-term.hand c.loop-term.made
    (g.D.Disk.state c.args.disk.now) (g.D.Disk.state c.loop-term.disk) c.loop-term.invariant (g.D.Disk.state c.merge_next.new.disk) c.merge_next.new.rows c.merge_next.new.hand c.merge_next.new.made
    c.in-Ok-true.ensures.merged c.in-Ok-true.ensures.reads.cost

pub returns-in-Ok-false-clause-merged : goal.returns-in-Ok-false-clause-merged
returns-in-Ok-false-clause-merged g c = λ image newest m.
    all_merged g.D.Disk.tells image (g.D.Disk.state c.merge_next.new.disk).content newest c.args.spans.now c.args.levels.now c.merge_next.new.rows c.merge_next.new.hand c.merge_next.new.made
    (c.in-Ok-false.ensures.merged image newest (c.loop-term.invariant.merged image newest m)) (c.in-Ok-false.ensures.filled c.in-Ok-false.field-0-test) (c.in-Ok-false.ensures.none c.in-Ok-false.field-0-test)

pub returns-in-Ok-false-clause-reads : goal.returns-in-Ok-false-clause-reads
returns-in-Ok-false-clause-reads g c =
    let old = g.D.Disk.state c.args.disk.now in
    let mid = g.D.Disk.state c.loop-term.disk in
    let now = g.D.Disk.state c.merge_next.new.disk in
    let run =
    merge_on g.D.Disk.tells c.args.levels.now c.args.spans.now c.args.rows.now c.args.hand.now c.args.made.now c.loop-term.rows c.loop-term.hand c.loop-term.made old mid c.loop-term.invariant now
    c.merge_next.new.rows c.merge_next.new.hand c.merge_next.new.made c.in-Ok-false.ensures.merged c.in-Ok-false.ensures.reads.cost in
    reads_done g.D.Disk.tells c.args.levels.now c.args.rows.now c.merge_next.new.rows old now (run.spent, run.reads, run.left) (Unit {0}) tt

pub returns-in-Err-clause-reads : goal.returns-in-Err-clause-reads
returns-in-Err-clause-reads g c =
    let run = c.loop-term.invariant in
    reads_failed g.D.Disk.tells c.args.levels.now c.args.rows.now c.loop-term.rows (g.D.Disk.state c.args.disk.now) (g.D.Disk.state c.loop-term.disk) (run.spent, run.reads, run.left) Bool (Unit {0}) c.in-Err.fault
    c.merge_next.new.rows (g.D.Disk.state c.merge_next.new.disk) c.in-Err.ensures.reads

pub returns-clause-reads : goal.returns-clause-reads
returns-clause-reads g c =
    let run = c.loop-term.invariant in
    reads_wanting g.D.Disk.tells c.args.levels.now c.args.rows.now c.loop-term.rows (g.D.Disk.state c.args.disk.now) (g.D.Disk.state c.loop-term.disk) (run.spent, run.reads, run.left) (Unit {0}) c.loop-term.rows
