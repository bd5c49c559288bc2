use Rattle.alta_machine.proofs.Ranges.{ranges_start, ranges_step, ranges_end}
use Rattle.alta_machine.proofs.build.put_ranges.Goals as goal

pub loop-level-init : goal.loop-level-init
loop-level-init c = ranges_start c.args.value c.args.ranges.now.items

pub loop-level-preserved : goal.loop-level-preserved
loop-level-preserved c =
    ranges_step c.args.value c.loop-level.level c.loop-level.ranges.items c.push.new.self.items _ c.term.result c.loop-level-test.true
    c.term.ensures c.in_ok-push.ensures.items c.loop-level.invariant

pub returns : goal.returns
returns c = ranges_end c.args.value c.loop-level.level c.loop-level.ranges.items _ c.loop-level-test.false c.loop-level.invariant
