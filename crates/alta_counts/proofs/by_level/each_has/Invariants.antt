use Rattle.std.proofs.Common.{ℕ, ◌<◌, get_or, length}
use Rattle.alta_counts.specs.ByLevel.{between, levels_of}
use Rattle.alta_counts.proofs.by_level.each_has.Given as goal

abbrev pub invariant-loop-index : goal.invariant-loop-index
invariant-loop-index l = (k : ℕ) → k < l.index-index → 0 < length (between l.low l.high (levels_of l.tests (get_or l.uses k 0)))
