use Rattle.std.proofs.Common.{ℕ, ◌-◌, ◌<◌, ◌≤◌, length, get_or}
use Rattle.alta_codec.proofs.gallop.far_from.Given as goal

abbrev pub invariant-gallop : goal.invariant-gallop
invariant-gallop l =
    record {
      ordered : l.low ≤ l.high;
      started : l.from ≤ l.low;
      within : l.high ≤ length l.list;
      before : (k : ℕ) → k < l.low → get_or l.list k 0 < l.to;
    }

abbrev pub decreases-gallop : goal.decreases-gallop
decreases-gallop l = length l.list - l.high

abbrev pub invariant-halve : goal.invariant-halve
invariant-halve l =
    record {
      ordered : l.low ≤ l.high;
      started : l.from ≤ l.low;
      within : l.high ≤ length l.list;
      before : (k : ℕ) → k < l.low → get_or l.list k 0 < l.to;
      found : l.high < length l.list → l.to ≤ get_or l.list l.high 0;
    }

abbrev pub decreases-halve : goal.decreases-halve
decreases-halve l = l.high - l.low
