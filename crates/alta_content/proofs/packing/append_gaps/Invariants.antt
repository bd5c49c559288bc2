use Rattle.std.proofs.Common.{◌≡◌, ◌++◌, length, take, drop}
use Rattle.alta_content.specs.Packed.{gaps_bytes}
use Rattle.alta_content.proofs.packing.append_gaps.Given as goal

abbrev pub invariant-loop-location : goal.invariant-loop-location
invariant-loop-location l =
    record {
      gaps : l.fn.gaps.items ++ gaps_bytes 0 l.locations ≡ l.gaps.items ++ gaps_bytes l.before (drop l.location-index l.locations);
      front : take (length l.fn.gaps.items) l.gaps.items ≡ l.fn.gaps.items;
    }
