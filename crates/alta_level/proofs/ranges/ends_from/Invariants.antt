use Rattle.std.proofs.Common.{◌≡◌, ℕ, ◌+◌, ◌<◌, get_or}
use Rattle.alta_content.specs.Rows.{ends_of}
use Rattle.alta_level.proofs.ranges.ends_from.Given as goal

abbrev pub invariant-loop-i : goal.invariant-loop-i
invariant-loop-i l = (k : ℕ) → k < l.i → get_or l.locations k 0 ≡ get_or (ends_of l.documents) (l.from + k) 0
