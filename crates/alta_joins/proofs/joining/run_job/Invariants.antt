use Rattle.std.proofs.Common.{◌≡◌, ℕ, drop, length}
use Rattle.alta_joins.proofs.joining.run_job.Given as goal

abbrev pub invariant-loop-done : goal.invariant-loop-done
invariant-loop-done l = record {
  whole : l.job.whole ≡ l.initial.job.whole;
  left : (k : ℕ) × (l.job.left ≡ drop k l.initial.job.left);
}

abbrev pub decreases-loop-done : goal.decreases-loop-done
decreases-loop-done l = length l.job.left
