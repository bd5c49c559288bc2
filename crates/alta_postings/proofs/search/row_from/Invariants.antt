use Rattle.std.proofs.Common.{ℕ, ◌+◌, ◌-◌, ◌*◌, ◌<◌, ◌≤◌}
use Rattle.alta_postings.specs.Table.{field_at}
use Rattle.alta_postings.proofs.search.row_from.Given as goal

abbrev pub invariant-halve : goal.invariant-halve
invariant-halve l =
    record {
      order : l.low ≤ l.high;
      within : l.high ≤ l.last;
      found : l.to ≤ field_at l.bytes (3 * l.high + 1);
      before : (i : ℕ) → i < l.low → field_at l.bytes (3 * i + 1) < l.to;
    }

abbrev pub decreases-halve : goal.decreases-halve
decreases-halve l = l.high - l.low
