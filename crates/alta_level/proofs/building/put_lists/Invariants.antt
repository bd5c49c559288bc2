use Rattle.std.proofs.Common.{length}
use Rattle.alta_level.proofs.Entries.{Leaves}
use Rattle.alta_level.proofs.building.put_lists.Given as goal

abbrev pub invariant-loop-term : goal.invariant-loop-term
invariant-loop-term l = Leaves l.fn.lists l.initial.terms.items l.initial.streams.items l.terms.items l.streams.items l.before.items l.left

abbrev pub decreases-loop-term : goal.decreases-loop-term
decreases-loop-term l = length l.left
