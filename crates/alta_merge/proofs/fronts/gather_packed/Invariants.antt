use Rattle.std.proofs.Common.{◌≡◌, take}
use Rattle.std.specs.Prelude.{flat_map}
use Rattle.alta_merge.specs.Fronts.{front_of}
use Rattle.alta_merge.proofs.fronts.gather_packed.Given as goal

abbrev pub invariant-loop-i : goal.invariant-loop-i
invariant-loop-i l = l.all ≡ flat_map (front_of l.term) (take l.i l.rests)
