use Rattle.alta_merge.specs.Fronts.{NoneLeft}
use Rattle.alta_merge.proofs.fronts.first_left.Given as goal

abbrev pub invariant-loop-i : goal.invariant-loop-i
invariant-loop-i l = NoneLeft l.rests l.i
