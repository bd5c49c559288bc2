use Rattle.std.proofs.Common.{◌≡◌}
use Rattle.alta_merge.specs.Fronts.{AreNext, next_term}
use Rattle.alta_merge.proofs.fronts.next_from.Given as goal

abbrev pub invariant-loop-i : goal.invariant-loop-i
invariant-loop-i l =
    record {
      next : AreNext l.rests l.i l.next.first l.next.last;
      least : l.least ≡ next_term l.rests l.next.first;
    }
