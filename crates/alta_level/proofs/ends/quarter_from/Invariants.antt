use Rattle.std.proofs.Common.{ℕ, ◌+◌, ◌<◌, ◌≤◌, length, get_or}
use Rattle.alta_level.proofs.ends.quarter_from.Given as goal

abbrev pub invariant-quarters : goal.invariant-quarters
invariant-quarters l =
    record {
      within : l.low + l.left ≤ length l.list;
      passed : (k : ℕ) → k < l.low → get_or l.list k 0 < l.to;
      ahead : l.low + l.left < length l.list → l.to ≤ get_or l.list (l.low + l.left) 0;
    }

abbrev pub decreases-quarters : goal.decreases-quarters
decreases-quarters l = l.left
