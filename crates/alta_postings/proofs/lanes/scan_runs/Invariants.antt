use Rattle.std.proofs.Common.{◌-◌, ◌≤◌, length}
use Rattle.alta_postings.specs.Short.{IsReadTo}
use Rattle.alta_postings.proofs.lanes.scan_runs.Given as goal

abbrev pub invariant-runs : goal.invariant-runs
invariant-runs l =
    record {
      read : IsReadTo l.bytes l.place l.before l.last l.count l.at;
      few : l.count ≤ 64;
      within : l.at ≤ length l.bytes;
    }

abbrev pub decreases-runs : goal.decreases-runs
decreases-runs l = length l.bytes - l.at
