use Rattle.std.proofs.Common.{sym, ◌∙◌, arith}
use Rattle.alta_machine.specs.Spots.{is_run}
use Rattle.alta_query.proofs.Walks.{passed, stopped, ended}
use Rattle.alta_query.proofs.scan.run_end.Goals as goal

pub loop-n-preserved : goal.loop-n-preserved
loop-n-preserved c = record {
  within = omega arith;
  same = passed is_run c.args.rest.now c.loop-n.n c.loop-n-test.true (sym c.runs.ensures ∙ c.if-runs.true) c.loop-n.invariant.same;
}

pub returns-else-runs : goal.returns-else-runs
returns-else-runs c = record { len = stopped is_run c.args.rest.now c.loop-n.n c.loop-n-test.true (sym c.runs.ensures ∙ c.if-runs.false) c.loop-n.invariant.same; within = c.loop-n.invariant.within }

pub returns-after-loop-n : goal.returns-after-loop-n
returns-after-loop-n c = record { len = ended is_run c.args.rest.now c.loop-n.n c.loop-n-test.false c.loop-n.invariant.same; within = c.loop-n.invariant.within }
