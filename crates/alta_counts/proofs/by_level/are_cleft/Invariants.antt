use Rattle.std.proofs.Common.{ℕ, ◌<◌, get_or}
use Rattle.alta_counts.specs.ByLevel.{IsCleft, levels_of}
use Rattle.alta_counts.proofs.by_level.are_cleft.Given as goal

abbrev pub invariant-loop-index : goal.invariant-loop-index
invariant-loop-index l = (k : ℕ) → k < l.index-index → IsCleft l.place (levels_of l.tests (get_or l.uses k 0))
