use Rattle.std.proofs.Common.{◌≡◌, drop, map}
use Rattle.alta_machine.specs.Shape.{shapes_of}
use Rattle.alta_query.specs.View.{shape}
use Rattle.alta_machine.specs.PlanOf.{plans_of, others_of}
use Rattle.alta_compile.specs.View.{tree}
use Rattle.alta_compile.proofs.Gathered.{trees_then}
use Rattle.alta_compile.proofs.compiling.+compiling.Given as goal

abbrev pub invariant-plan_each-loop-member : goal.invariant-plan_each-loop-member
invariant-plan_each-loop-member l =
    trees_then (map tree l.plans.items) (plans_of (shapes_of (map shape (drop l.member-index l.members)))) ≡ plans_of (shapes_of (map shape l.members))

abbrev pub invariant-plan_others-loop-member : goal.invariant-plan_others-loop-member
invariant-plan_others-loop-member l =
    trees_then (map tree l.others.items) (others_of (shapes_of (map shape (drop l.member-index l.members)))) ≡ others_of (shapes_of (map shape l.members))
