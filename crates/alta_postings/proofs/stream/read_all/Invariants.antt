use Rattle.std.proofs.Common.{◌≡◌, ◌-◌, ◌<◌, ◌≤◌, ◌++◌, drop, length}
use Rattle.std.specs.Prelude.{None}
use Rattle.alta_codec.specs.declared.location.TheConstants.{TOP}
use Rattle.alta_postings.specs.Deltas.{fault_from, list_from}
use Rattle.alta_postings.proofs.stream.read_all.Given as goal

abbrev pub invariant-numbers : goal.invariant-numbers
invariant-numbers l =
    record {
      read : l.list.items ++ list_from l.at 0 l.last (drop l.at l.bytes) ≡ list_from 0 0 0 l.bytes;
      none : fault_from l.at 0 l.last (drop l.at l.bytes) ≡ None;
      low : l.last < TOP;
      within : l.at ≤ length l.bytes;
    }

abbrev pub decreases-numbers : goal.decreases-numbers
decreases-numbers l = length l.bytes - l.at
