use Rattle.std.proofs.Common.{◌-◌, length}
use Rattle.alta_layout.specs.Places.{half_start}
use Rattle.alta_journal.specs.Placed.{IsReading}
use Rattle.alta_journal.proofs.replaying.read_records.Given as goal

abbrev pub invariant-loop-at : goal.invariant-loop-at
invariant-loop-at l = IsReading l.version (half_start l.slot) l.entries.items l.at l.bytes

abbrev pub decreases-loop-at : goal.decreases-loop-at
decreases-loop-at l = length l.bytes - l.at
