use Rattle.std.proofs.Common.{ℕ, ◌-◌, ◌<◌, ◌≤◌, length, get_or}
use Rattle.alta_content.specs.Runs.{IsInRun}
use Rattle.alta_level.proofs.ranges.ranges_from.Given as goal

abbrev pub invariant-loop-location : goal.invariant-loop-location
invariant-loop-location l =
    record {
      within : l.run ≤ length l.runs.ends.items;
      ahead : (i k : ℕ) → i < l.run → l.location-index ≤ k → k < length l.locations → get_or l.runs.ends.items i 0 < get_or l.locations k 0;
      passed : 0 < l.location-index → (i : ℕ) → i < l.run → get_or l.runs.ends.items i 0 < get_or l.locations (l.location-index - 1) 0;
      held : (k : ℕ) → k < l.location-index → IsInRun l.runs.firsts.items l.runs.ends.items (get_or l.locations k 0);
    }
