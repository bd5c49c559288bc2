use Rattle.std.proofs.Common.{map}
use Rattle.std.specs.Prelude.{All}
use Rattle.std.specs.List.Sorted.{IsPermutation}
use Rattle.alta_compound.specs.Heap.{IsHeapFrom}
use Rattle.alta_compound.proofs.heap.build.Given as goal

abbrev pub invariant-build : goal.invariant-build
invariant-build g l =
    record {
      sound : All g.R.Reader.sound l.readers;
      heap : IsHeapFrom l.from (map g.R.Reader.location l.readers);
      permutation : IsPermutation l.initial.readers l.readers;
    }

abbrev pub decreases-build : goal.decreases-build
decreases-build g l = l.from
