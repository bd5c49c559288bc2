use Rattle.std.proofs.Common.{◌≢◌, ◌-◌, ℕ, ◌<◌, ◌≤◌, length, get_or}
use Rattle.alta_codec.specs.Inequality.{Inequality}
use Rattle.alta_solver.proofs.least.behind_bounded.Given as goal

abbrev pub invariant-bounds : goal.invariant-bounds
invariant-bounds l =
    record {
      after : l.from ≤ l.at;
      within : l.at ≤ length l.bounds;
      free : (k : ℕ) (d : Inequality) → l.at ≤ k → k < length l.bounds → (get_or l.bounds k d).i ≢ l.i;
    }

abbrev pub decreases-bounds : goal.decreases-bounds
decreases-bounds l = l.at - l.from
