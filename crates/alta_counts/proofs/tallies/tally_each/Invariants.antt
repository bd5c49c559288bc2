use Rattle.std.proofs.Common.{◌-◌, length}
use Rattle.alta_counts.proofs.Tallying.{IsTallying}
use Rattle.alta_counts.proofs.tallies.tally_each.Given as goal

abbrev pub invariant-gone : goal.invariant-gone
invariant-gone g l = IsTallying l.fn.reader l.walk l.gone l.live l.at l.fn.steps l.steps

abbrev pub decreases-gone : goal.decreases-gone
decreases-gone g l = length l.gone - l.at
