use Rattle.std.proofs.Common.{ap, ◌∙◌}
use Rattle.alta_machine.specs.Plans.{found}
use Rattle.alta_compile.proofs.Ranges.{range_more, ranges_done}
use Rattle.alta_compile.proofs.compiling.each_range.Goals as goal

pub loop-range-preserved : goal.loop-range-preserved
loop-range-preserved c =
    range_more c.args.ranges.now c.loop-range.range-index _ c.loop-range.plans.items c.push.new.self.items c.found-plan.result c.loop-range-test.true
    (c.found-plan.ensures ∙ ap found c.in_ok-plan_range.ensures) c.in_ok-push.ensures.items c.loop-range.invariant

pub returns : goal.returns
returns c = ranges_done c.args.ranges.now c.loop-range.range-index c.loop-range.plans.items c.loop-range-test.false c.loop-range.invariant
