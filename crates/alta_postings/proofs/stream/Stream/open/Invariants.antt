use Rattle.std.proofs.Common.{◌≡◌, ◌-◌, ◌<◌, ◌≤◌, drop, length}
use Rattle.alta_codec.specs.declared.location.TheConstants.{TOP}
use Rattle.alta_postings.specs.Deltas.{fault_from, first_fault}
use Rattle.alta_postings.proofs.stream.Stream.open.Given as goal

abbrev pub invariant-whole : goal.invariant-whole
invariant-whole l =
    record {
      same : first_fault l.bytes ≡ fault_from l.at 0 l.before (drop l.at l.bytes);
      low : l.before < TOP;
      within : l.at ≤ length l.bytes;
    }

abbrev pub decreases-whole : goal.decreases-whole
decreases-whole l = length l.bytes - l.at
