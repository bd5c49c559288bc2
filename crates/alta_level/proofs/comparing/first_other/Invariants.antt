use Rattle.std.proofs.Common.{ℕ, ◌<◌}
use Rattle.alta_words.specs.Fault.{Agrees}
use Rattle.alta_level.proofs.comparing.first_other.Given as goal

abbrev pub invariant-loop-i : goal.invariant-loop-i
invariant-loop-i l = (j : ℕ) → j < l.i → Agrees l.locations l.table.bytes l.table.count j
