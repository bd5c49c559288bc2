use Rattle.std.proofs.Common.{ℕ, ◌+◌, ◌-◌, ◌*◌, ◌<◌, ◌≤◌}
use Rattle.alta_postings.specs.Table.{field_at, groups_of}
use Rattle.alta_postings.proofs.search.group_from.Given as goal

abbrev pub invariant-halve : goal.invariant-halve
invariant-halve l =
    record {
      order : l.low ≤ l.high;
      within : l.high < groups_of l.count;
      found : l.to ≤ field_at l.bytes (3 * l.count + l.high);
      before : (g : ℕ) → g < l.low → field_at l.bytes (3 * l.count + g) < l.to;
    }

abbrev pub decreases-halve : goal.decreases-halve
decreases-halve l = l.high - l.low
