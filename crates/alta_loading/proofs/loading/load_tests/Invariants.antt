use Rattle.std.proofs.Common.{◌≡◌, ◌++◌, map}
use Rattle.alta_loading.proofs.TestRuns.{TestsRun}
use Rattle.alta_loading.specs.Kept.{AreKept}
use Rattle.alta_search.specs.Lists.{test_in, test_keys, test_lists}
use Rattle.alta_loading.proofs.loading.load_tests.Given as goal

abbrev pub invariant-loop-test : goal.invariant-loop-test
invariant-loop-test g l = record {
  split : map test_in l.tests.items ++ l.test-iterator.rest.items ≡ l.fn.order.items;
  known : AreKept g.D.Disk.tells (g.D.Disk.state l.fn.disk).content l.levels l.kept;
  run : TestsRun g.D.Disk.tells l.levels l.newest.content (map test_in l.tests.items) (map test_keys l.tests.items) (map test_lists l.tests.items) (g.D.Disk.state l.fn.disk) (g.D.Disk.state l.disk);
}
