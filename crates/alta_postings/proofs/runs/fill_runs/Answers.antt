use Rattle.std.proofs.Common.{arith}
use Rattle.alta_postings.proofs.runs.fill_runs.Goals as goal

pub runs-preserved : goal.runs-preserved
runs-preserved c = record {
  filled = λ s y f r. c.fill_run-last.ensures.filled s y f (c.runs.invariant.filled s y f r);
  few = omega (arith, c.fill_run-last.ensures.fits);
  within = omega arith;
}
