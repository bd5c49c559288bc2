use Rattle.std.proofs.Common.{◌+◌, ◌*◌, ◌≤◌, map, length}
use Rattle.std.specs.Prelude.{sum_by}
use Rattle.alta_solver.specs.Moves.{AreKept}
use Rattle.alta_solver.specs.Settling.{IsSettling}
use Rattle.alta_solver.proofs.least.settle.Given as goal

abbrev pub invariant-settle : goal.invariant-settle
invariant-settle g l =
    record {
      kept : AreKept g.R.Reader.sound g.R.Reader.list g.R.Reader.all g.R.Reader.location g.R.Reader.left
          (λ places. IsSettling (map g.R.Reader.list l.initial.readers) l.bounds (map g.R.Reader.location l.initial.readers) places l.at)
          l.initial.readers l.readers l.initial.steps l.steps;
      inside : l.at ≤ length l.bounds;
    }

-- each move makes the sum of what is left fall, and between two moves the number of bounds still to be tested falls
abbrev pub decreases-settle : goal.decreases-settle
decreases-settle g l = (length l.bounds + 1) * sum_by g.R.Reader.left l.readers + l.at
