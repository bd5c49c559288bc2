use Rattle.std.proofs.Common.{ℕ, ◌-◌, ◌<◌, ◌≤◌, [], map, length, get_or}
use Rattle.alta_codec.specs.declared.location.TheConstants.{TOP}
use Rattle.alta_codec.specs.Rising.{pred_of}
use Rattle.alta_search.specs.Lists.{level_list}
use Rattle.alta_counts.proofs.by_level.up_to.Given as goal

abbrev pub invariant-levels : goal.invariant-levels
invariant-levels l =
    record {
      within : l.at ≤ length l.levels;
      below : (k : ℕ) → k < l.at → pred_of (get_or (map level_list l.levels) k []) TOP ≤ l.place;
    }

abbrev pub decreases-levels : goal.decreases-levels
decreases-levels l = length l.levels - l.at
