use Rattle.std.proofs.Common.{◌-◌, ◌≤◌, length}
use Rattle.alta_model.specs.Near.{IsLast, AreApart}
use Rattle.alta_model.proofs.near.holds_near.Given as goal

abbrev pub invariant-loop-i : goal.invariant-loop-i
invariant-loop-i l = record {
  within : l.i ≤ length l.cells;
  left : IsLast l.cells l.left l.i l.last_left;
  right : IsLast l.cells l.right l.i l.last_right;
  apart : AreApart l.cells l.left l.distance l.right l.i;
}

abbrev pub decreases-loop-i : goal.decreases-loop-i
decreases-loop-i l = length l.cells - l.i
