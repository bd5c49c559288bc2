use Rattle.std.proofs.Common.{◌≡◌, drop, map}
use Rattle.alta_machine.specs.Shape.{shapes_of}
use Rattle.alta_query.specs.View.{shape}
use Rattle.alta_rank.specs.AnyUse.{each_use}
use Rattle.alta_rank.proofs.any_use.each_has_one_use.Given as goal

abbrev pub invariant-loop-member : goal.invariant-loop-member
invariant-loop-member l = each_use (shapes_of (map shape (drop l.member-index l.members))) ≡ each_use (shapes_of (map shape l.members))
