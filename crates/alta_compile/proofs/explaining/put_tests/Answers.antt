use Rattle.std.proofs.Common.{◌++◌, refl}
use Rattle.std.specs.Prelude.{codes}
use Rattle.alta_machine.specs.Explained.{test_text, tests_text}
use Rattle.alta_compile.proofs.Lines.{more_lines, all_lines, two_pieces}
use Rattle.alta_compile.proofs.explaining.put_tests.Goals as goal

pub loop-test-preserved : goal.loop-test-preserved
loop-test-preserved c =
    let written = two_pieces _ _ _ (codes " ") (test_text c.test-item.result) c.in_ok-extend_from_slice.ensures.items c.in_ok-put_test.ensures in
    more_lines tests_text (λ t. codes " " ++ test_text t) c.args.tests.now c.loop-test.test-index _ _ _ _ (λ t ts. refl) c.loop-test-test.true c.test-item.is written c.loop-test.invariant

pub returns : goal.returns
returns c = all_lines tests_text test_text c.args.tests.now c.loop-test.test-index _ _ refl c.loop-test-test.false c.loop-test.invariant
