use Rattle.std.proofs.Common.{◌-◌, length}
use Rattle.alta_solver.specs.Bounds.{IsPaired}
use Rattle.alta_solver.proofs.solver.leading_pairs.Given as goal

abbrev pub invariant-pairs : goal.invariant-pairs
invariant-pairs l = IsPaired l.pairs l.bounds

abbrev pub decreases-pairs : goal.decreases-pairs
decreases-pairs l = length l.bounds - l.pairs
