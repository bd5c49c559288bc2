use Rattle.std.proofs.Common.{◌≡◌, ◌-◌, ◌≤◌, length, drop}
use Rattle.alta_model.specs.Phrase.{fits}
use Rattle.alta_model.proofs.phrase.fits.Given as goal

abbrev pub invariant-loop-i : goal.invariant-loop-i
invariant-loop-i l = record { within : l.i ≤ length l.tests; inside : l.i ≤ length l.cells; same : fits (drop l.i l.tests) (drop l.i l.cells) ≡ fits l.tests l.cells }

abbrev pub decreases-loop-i : goal.decreases-loop-i
decreases-loop-i l = length l.tests - l.i
