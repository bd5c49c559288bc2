use Rattle.std.proofs.Common.{◌≡◌, ◌++◌, map, drop}
use Rattle.alta_machine.specs.Shape.{shapes_of}
use Rattle.alta_query.specs.View.{shape}
use Rattle.alta_machine.specs.Uses.{uses_of, uses_in}
use Rattle.alta_rank.proofs.gathering.+gather.Given as goal

abbrev pub decreases-gather : goal.decreases-gather
decreases-gather l = goal.size-gather l

abbrev pub invariant-loop-member : goal.invariant-loop-member
invariant-loop-member l = l.out.items ++ uses_in (shapes_of (map shape (drop l.member-index l.member-items))) ≡ l.fn.out.items ++ uses_of (shape l.query)
