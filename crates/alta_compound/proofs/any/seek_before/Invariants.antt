use Rattle.std.proofs.Common.{◌≡◌, ◌⊎◌, ◌+◌, ◌<◌, ◌≤◌, map}
use Rattle.std.specs.Prelude.{All, sum_by}
use Rattle.alta_compound.specs.Heap.{IsHeapFrom}
use Rattle.alta_compound.specs.Moves.{cost_before}
use Rattle.alta_compound.proofs.Moving.{IsMoving}
use Rattle.alta_compound.proofs.any.seek_before.Given as goal

abbrev pub invariant-moves : goal.invariant-moves
invariant-moves g l =
    record {
      sound : All g.R.Reader.sound l.readers;
      heap : IsHeapFrom 0 (map g.R.Reader.location l.readers);
      moving : IsMoving g.R.Reader.list g.R.Reader.all g.R.Reader.location l.to l.initial.readers l.readers l.last;
      low : l.at ≤ l.last;
      falls : (l.readers ≡ l.initial.readers) ⊎ (sum_by g.R.Reader.left l.readers < sum_by g.R.Reader.left l.initial.readers);
      steps : l.steps + sum_by g.R.Reader.left l.readers ≤ l.initial.steps + sum_by g.R.Reader.left l.initial.readers;
      cost : l.steps + sum_by (cost_before g.R.Reader.cost g.R.Reader.location l.to) l.readers
          ≤ l.initial.steps + sum_by (cost_before g.R.Reader.cost g.R.Reader.location l.to) l.initial.readers;
    }

abbrev pub decreases-moves : goal.decreases-moves
decreases-moves g l = sum_by g.R.Reader.left l.readers
