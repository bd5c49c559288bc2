use Rattle.std.proofs.Common.{◌≡◌, ◌<◌, ◌≤◌, ℕ, get_or, length}
use Rattle.alta_search.specs.Lists.{lists_at, count_locations}
use Rattle.alta_search.proofs.leading.rarest.Given as goal

abbrev pub invariant-loop-i : goal.invariant-loop-i
invariant-loop-i l =
    record {
      within : l.lead < length l.words;
      is : l.fewest ≡ count_locations (lists_at l.tests (get_or l.words l.lead 0));
      least : (k : ℕ) → k < l.i → l.fewest ≤ count_locations (lists_at l.tests (get_or l.words k 0));
    }
