use Rattle.std.proofs.Common.{◌≡◌, ◌++◌, map, take}
use Rattle.alta_machine.specs.Uses.{use_of}
use Rattle.alta_rank.proofs.gathering.push_tests.Given as goal

abbrev pub invariant-loop-test : goal.invariant-loop-test
invariant-loop-test l = l.out.items ≡ l.fn.out.items ++ map (use_of l.title) (take l.test-index l.tests)
