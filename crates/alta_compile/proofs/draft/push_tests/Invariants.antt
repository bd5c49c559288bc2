use Rattle.std.proofs.Common.{◌≡◌, ◌++◌, take}
use Rattle.alta_compile.proofs.draft.push_tests.Given as goal

abbrev pub invariant-loop-test : goal.invariant-loop-test
invariant-loop-test l = l.out.items ≡ l.fn.out.items ++ take l.test-index l.tests
