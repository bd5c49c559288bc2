use Rattle.std.proofs.Common.{drop, map}
use Rattle.alta_machine.specs.Shape.{shapes_of}
use Rattle.alta_query.specs.View.{shape}
use Rattle.alta_compile.proofs.Collected.{IsConjoining}
use Rattle.alta_compile.proofs.conjoining.gather.Given as goal

abbrev pub invariant-loop-member : goal.invariant-loop-member
invariant-loop-member l = IsConjoining l.words l.negated (shapes_of (map shape (drop l.member-index l.members))) (shapes_of (map shape l.members))
