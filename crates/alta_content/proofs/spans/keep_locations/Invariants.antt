use Rattle.std.proofs.Common.{◌≤◌, length}
use Rattle.alta_content.proofs.Walks.{IsKept}
use Rattle.alta_content.proofs.spans.keep_locations.Given as goal

abbrev pub invariant-loop-i : goal.invariant-loop-i
invariant-loop-i l =
    record {
      at : l.at ≤ length l.spans;
      kept : IsKept l.spans l.fn.locations.items l.locations.items l.kept l.i;
    }
