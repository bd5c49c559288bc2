use Rattle.std.proofs.Common.{◌≡◌, drop, map}
use Rattle.alta_machine.specs.Shape.{shapes_of}
use Rattle.alta_query.specs.View.{shape}
use Rattle.alta_compile.specs.Conjoined.{each_word}
use Rattle.alta_compile.proofs.conjoining.each_is_word.Given as goal

abbrev pub invariant-loop-member : goal.invariant-loop-member
invariant-loop-member l = each_word (shapes_of (map shape (drop l.member-index l.members))) ≡ each_word (shapes_of (map shape l.members))
