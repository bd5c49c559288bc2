use Rattle.std.proofs.Common.{◌≡◌, ◌++◌, drop}
use Rattle.alta_machine.specs.Explained.{tests_text}
use Rattle.alta_compile.proofs.explaining.put_tests.Given as goal

abbrev pub invariant-loop-test : goal.invariant-loop-test
invariant-loop-test l = l.out.items ++ tests_text (drop l.test-index l.tests) ≡ l.fn.out.items ++ tests_text l.tests
