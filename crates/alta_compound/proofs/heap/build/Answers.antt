use Rattle.std.proofs.lemmas.List.Sorted.{All-permutation, IsPermutation-trans}
use Rattle.alta_compound.proofs.heap.build.Goals as goal

pub build-preserved : goal.build-preserved
build-preserved g c =
    let rs = c.build.readers in let new = c.sift_down.new.readers in
    record {
      sound = All-permutation g.R.Reader.sound rs new c.sift_down.ensures.permutation c.build.invariant.sound;
      heap = c.sift_down.ensures.heap;
      permutation = IsPermutation-trans c.args.readers.now rs new c.build.invariant.permutation c.sift_down.ensures.permutation;
    }
