use Rattle.std.proofs.Common.{◌≡◌, ◌++◌, drop, map}
use Rattle.alta_machine.specs.PlanOf.{range_plan}
use Rattle.alta_compile.specs.View.{tree}
use Rattle.alta_compile.proofs.compiling.each_range.Given as goal

abbrev pub invariant-loop-range : goal.invariant-loop-range
invariant-loop-range l = map tree l.plans.items ++ map range_plan (drop l.range-index l.ranges) ≡ map range_plan l.ranges
