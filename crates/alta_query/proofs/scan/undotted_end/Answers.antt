use Rattle.std.proofs.Common.{ap, arith}
use Rattle.std.specs.Prelude.{not}
use Rattle.alta_machine.specs.Spots.{is_undotted}
use Rattle.alta_query.proofs.Firsts.{other_byte}
use Rattle.alta_query.proofs.Walks.{passed, stopped, ended}
use Rattle.alta_query.proofs.scan.undotted_end.Goals as goal

pub loop-n-preserved : goal.loop-n-preserved
loop-n-preserved c = record {
  within = omega arith;
  same = passed is_undotted c.args.rest.now c.loop-n.n c.loop-n-test.true (ap not (other_byte _ 46 c.if-rest-n-ne46.true)) c.loop-n.invariant.same;
}

pub returns-else-rest-n-ne46 : goal.returns-else-rest-n-ne46
returns-else-rest-n-ne46 c = record { len = stopped is_undotted c.args.rest.now c.loop-n.n c.loop-n-test.true (ap is_undotted c.if-rest-n-ne46.false) c.loop-n.invariant.same; within = c.loop-n.invariant.within }

pub returns-after-loop-n : goal.returns-after-loop-n
returns-after-loop-n c = record { len = ended is_undotted c.args.rest.now c.loop-n.n c.loop-n-test.false c.loop-n.invariant.same; within = c.loop-n.invariant.within }
