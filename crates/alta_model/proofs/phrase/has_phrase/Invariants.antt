use Rattle.std.proofs.Common.{◌≡◌, ◌-◌, ◌≤◌, length, drop}
use Rattle.alta_model.specs.Phrase.{has_phrase}
use Rattle.alta_model.proofs.phrase.has_phrase.Given as goal

abbrev pub invariant-loop-start : goal.invariant-loop-start
invariant-loop-start l = record { within : l.start ≤ length l.cells; same : has_phrase l.tests (drop l.start l.cells) ≡ has_phrase l.tests l.cells }

abbrev pub decreases-loop-start : goal.decreases-loop-start
decreases-loop-start l = length l.cells - l.start
