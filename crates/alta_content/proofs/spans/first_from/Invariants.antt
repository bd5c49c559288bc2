use Rattle.std.proofs.Common.{ℕ, ◌-◌, ◌<◌, ◌≤◌, length, get_or}
use Rattle.alta_content.specs.Spans.{lasts_of}
use Rattle.alta_content.proofs.spans.first_from.Given as goal

abbrev pub invariant-gallop : goal.invariant-gallop
invariant-gallop l =
    record {
      ordered : l.low ≤ l.high;
      started : l.from ≤ l.low;
      within : l.high ≤ length l.spans;
      before : (k : ℕ) → k < l.low → get_or (lasts_of l.spans) k 0 < l.location;
    }

abbrev pub decreases-gallop : goal.decreases-gallop
decreases-gallop l = length l.spans - l.high

abbrev pub invariant-halve : goal.invariant-halve
invariant-halve l =
    record {
      ordered : l.low ≤ l.high;
      within : l.high ≤ length l.spans;
      before : (k : ℕ) → k < l.low → get_or (lasts_of l.spans) k 0 < l.location;
      found : l.high < length l.spans → l.location ≤ get_or (lasts_of l.spans) l.high 0;
    }

abbrev pub decreases-halve : goal.decreases-halve
decreases-halve l = l.high - l.low
