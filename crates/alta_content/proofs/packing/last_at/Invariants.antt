use Rattle.std.proofs.Common.{◌≡◌, ◌≤◌, ◌-◌, length, drop}
use Rattle.alta_content.specs.Packed.{last_behind, locations_in}
use Rattle.alta_content.proofs.packing.last_at.Given as goal

abbrev pub invariant-loop : goal.invariant-loop
invariant-loop l =
    record {
      at : l.at ≤ length l.gaps;
      last : last_behind l.before (locations_in l.count l.before (drop l.place l.gaps)) ≡ last_behind l.location (locations_in (l.count - l.counter) l.location (drop l.at l.gaps));
    }
