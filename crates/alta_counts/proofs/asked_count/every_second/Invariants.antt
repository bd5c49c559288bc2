use Rattle.std.proofs.Common.{◌≡◌, take}
use Rattle.alta_counts.specs.Either.{seconds}
use Rattle.alta_counts.proofs.asked_count.every_second.Given as goal

abbrev pub invariant-loop-index : goal.invariant-loop-index
invariant-loop-index l = l.all.items ≡ take l.index (seconds l.uses)
