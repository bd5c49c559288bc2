use Rattle.std.proofs.Common.{◌<◌, ◌≤◌, map, length, get_or, arith}
use Rattle.std.proofs.lemmas.List.{length-map}
use Rattle.std.proofs.lemmas.List.Sorted.{All-permutation, IsPermutation-trans}
use Rattle.alta_compound.proofs.Heaps.{but_step, mapped_swap}
use Rattle.alta_compound.proofs.heap.sift_down.Goals as goal

pub sift-preserved : goal.sift-preserved
sift-preserved g c =
    let h = g.R.Reader.location in let rs = c.sift.readers in let at = c.sift.at in let child = c.lesser_child-child.result in
    let inv = c.sift.invariant in let lesser = c.lesser_child-child.ensures in
    let within : child < length rs = lesser.within in
    let here : at < length rs = omega arith in
    let size = length-map rs h in
    let above : get_or (map h rs) child 0 ≤ get_or (map h rs) at 0 = omega arith in
    record {
      sound = All-permutation g.R.Reader.sound rs c.swap.new.self c.swap.ensures.permutation inv.sound;
      after = omega (arith, lesser.child.0);
      heap = but_step c.args.from at child (map h rs) (map h c.swap.new.self) inv.heap inv.after lesser.child.0 lesser.child.1 (omega (arith, size))
          above (λ d a b w. lesser.least d (a, b) (omega (arith, size)))
          (mapped_swap h rs c.swap.new.self at child here within c.swap.ensures.len c.swap.ensures.by_index);
      permutation = IsPermutation-trans c.args.readers.now rs c.swap.new.self inv.permutation c.swap.ensures.permutation;
    }
