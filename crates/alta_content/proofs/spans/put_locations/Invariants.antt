use Rattle.std.proofs.Common.{◌≡◌, ◌≤◌, ◌++◌, length, take}
use Rattle.alta_content.specs.Spans.{outside_of}
use Rattle.alta_content.proofs.spans.put_locations.Given as goal

abbrev pub invariant-loop-location : goal.invariant-loop-location
invariant-loop-location l =
    record {
      at : l.at ≤ length l.spans;
      items : l.all.items ≡ l.fn.all.items ++ outside_of l.spans (take l.location-index l.locations);
    }
