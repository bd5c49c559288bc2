use Rattle.std.proofs.Common.{◌≡◌, drop}
use Rattle.alta_top.proofs.SameTests.{lists_among}
use Rattle.alta_top.proofs.scoring.index_for.Given as goal

abbrev pub invariant-loop-index : goal.invariant-loop-index
invariant-loop-index l = lists_among l.tests l.test (drop l.index-index l.used) ≡ lists_among l.tests l.test l.used
