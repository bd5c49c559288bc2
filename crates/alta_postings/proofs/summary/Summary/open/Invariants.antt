use Rattle.std.proofs.Common.{ℕ, ◌<◌}
use Rattle.alta_postings.specs.Table.{Keeps}
use Rattle.alta_postings.proofs.summary.Summary.open.Given as goal

abbrev pub invariant-loop-k : goal.invariant-loop-k
invariant-loop-k l = (m : ℕ) → m < l.k → Keeps l.bytes l.count m
