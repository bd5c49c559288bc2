use Rattle.std.proofs.Common.{◌+◌, ◌≤◌, map}
use Rattle.std.specs.List.{concat}
use Rattle.alta_gather.proofs.Lists.{IsHeldTo}
use Rattle.alta_search.specs.Lists.{term_lists}
use Rattle.alta_dump.proofs.Counting.{counted}
use Rattle.alta_dump.proofs.gathering.gather.Given as goal

abbrev pub invariant-loop-i : goal.invariant-loop-i
invariant-loop-i g l =
    record {
      held : IsHeldTo l.places (map concat (map term_lists l.terms)) l.i l.held.items;
      steps : l.steps ≤ l.fn.steps + counted l.i (map term_lists l.terms);
    }
