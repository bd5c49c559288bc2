use Rattle.std.proofs.Common.{◌-◌, ◌<◌, ◌≤◌}
use Rattle.alta_level.proofs.ends.window_from.Given as goal

abbrev pub invariant-gallop : goal.invariant-gallop
invariant-gallop l =
    record {
      within : l.len ≤ l.most;
      some : 0 < l.most → 0 < l.len;
    }

abbrev pub decreases-gallop : goal.decreases-gallop
decreases-gallop l = l.most - l.len
