use Rattle.std.proofs.Common.{◌≤◌, ◌-◌, length}
use Rattle.alta_loading.proofs.kept.place_of.Given as goal

abbrev pub invariant-loop-low : goal.invariant-loop-low
invariant-loop-low l = record {
  within : l.high ≤ length l.lists;
  ordered : l.low ≤ l.high;
}

abbrev pub decreases-loop-low : goal.decreases-loop-low
decreases-loop-low l = l.high - l.low
