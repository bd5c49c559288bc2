use Rattle.std.proofs.Common.{◌≢◌, ℕ, ◌<◌, get_or}
use Rattle.alta_machine.specs.declared.test.Test.{Test}
use Rattle.alta_search.proofs.order.place_of.Given as goal

abbrev pub invariant-loop-index : goal.invariant-loop-index
invariant-loop-index l = (k : ℕ) (d : Test) → k < l.index → get_or l.tests k d ≢ l.test
