use Rattle.std.proofs.Common.{◌≡◌, ◌≤◌, ◌-◌, ◌++◌, length, drop}
use Rattle.alta_content.specs.Packed.{locations_in}
use Rattle.alta_content.proofs.packing.put_locations_at.Given as goal

abbrev pub invariant-loop : goal.invariant-loop
invariant-loop l =
    record {
      at : l.at ≤ length l.gaps;
      all : l.fn.all.items ++ locations_in l.count 0 (drop l.place l.gaps) ≡ l.all.items ++ locations_in (l.count - l.counter) l.location (drop l.at l.gaps);
    }
