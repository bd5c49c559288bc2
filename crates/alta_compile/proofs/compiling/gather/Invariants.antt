use Rattle.std.proofs.Common.{drop, map}
use Rattle.alta_machine.specs.Shape.{shapes_of}
use Rattle.alta_query.specs.View.{shape}
use Rattle.alta_machine.specs.Joined.{joint_pattern}
use Rattle.alta_machine.specs.PlanOf.{atoms_in}
use Rattle.alta_compile.proofs.Gathered.{IsGathered}
use Rattle.alta_compile.proofs.compiling.gather.Given as goal

abbrev pub invariant-loop-member : goal.invariant-loop-member
invariant-loop-member l =
    IsGathered l.draft (atoms_in (shapes_of (map shape (drop l.member-index l.members)))) (joint_pattern (atoms_in (shapes_of (map shape l.members))))
