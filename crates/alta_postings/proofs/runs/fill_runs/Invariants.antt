use Rattle.std.proofs.Common.{ℕ, ◌-◌, ◌≤◌, length}
use Rattle.alta_postings.specs.Short.{IsFilled}
use Rattle.alta_postings.proofs.runs.fill_runs.Given as goal

abbrev pub invariant-runs : goal.invariant-runs
invariant-runs l =
    record {
      filled : (s y f : ℕ) → IsFilled l.bytes s y f l.first l.place l.initial.out.items → IsFilled l.bytes s y f l.last l.at l.out.items;
      few : length l.out.items ≤ 64;
      within : l.at ≤ length l.bytes;
    }

abbrev pub decreases-runs : goal.decreases-runs
decreases-runs l = length l.bytes - l.at
