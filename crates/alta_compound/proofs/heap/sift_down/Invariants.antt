use Rattle.std.proofs.Common.{◌-◌, ◌≤◌, map, length}
use Rattle.std.specs.Prelude.{All}
use Rattle.std.specs.List.Sorted.{IsPermutation}
use Rattle.alta_compound.proofs.Heaps.{IsHeapBut}
use Rattle.alta_compound.proofs.heap.sift_down.Given as goal

abbrev pub invariant-sift : goal.invariant-sift
invariant-sift g l =
    record {
      sound : All g.R.Reader.sound l.readers;
      after : l.from ≤ l.at;
      heap : IsHeapBut l.from l.at (map g.R.Reader.location l.readers);
      permutation : IsPermutation l.initial.readers l.readers;
    }

abbrev pub decreases-sift : goal.decreases-sift
decreases-sift g l = length l.readers - l.at
