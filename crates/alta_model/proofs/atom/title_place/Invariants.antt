use Rattle.std.proofs.Common.{◌-◌, ◌≤◌, length}
use Rattle.alta_model.specs.Near.{IsLast}
use Rattle.alta_machine.specs.Patterns.{title_end}
use Rattle.alta_model.proofs.atom.title_place.Given as goal

abbrev pub invariant-loop-i : goal.invariant-loop-i
invariant-loop-i l = record { within : l.i ≤ length l.cells; last : IsLast l.cells title_end l.i l.last }

abbrev pub decreases-loop-i : goal.decreases-loop-i
decreases-loop-i l = length l.cells - l.i
