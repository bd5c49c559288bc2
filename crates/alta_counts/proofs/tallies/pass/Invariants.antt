use Rattle.alta_counts.proofs.Tallying.{IsPassing}
use Rattle.alta_counts.proofs.tallies.pass.Given as goal

abbrev pub invariant-ends : goal.invariant-ends
invariant-ends g l = IsPassing l.fn.reader l.reader l.to l.passed l.fn.steps l.steps

abbrev pub decreases-ends : goal.decreases-ends
decreases-ends g l = l.reader.left
