use Rattle.std.proofs.Common.{◌+◌, ◌-◌}
use Rattle.alta_machine.proofs.Begun.{IsBegun}
use Rattle.alta_machine.proofs.covering.cover.Given as goal

abbrev pub invariant-steps : goal.invariant-steps
invariant-steps l = IsBegun l.a l.b l.next l.ranges.items

abbrev pub decreases-steps : goal.decreases-steps
decreases-steps l = l.b + 1 - l.next
