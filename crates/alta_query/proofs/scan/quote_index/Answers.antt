use Rattle.std.proofs.Common.{ap, arith}
use Rattle.std.specs.Prelude.{not}
use Rattle.alta_machine.specs.Spots.{is_quote}
use Rattle.alta_query.proofs.Firsts.{other_byte}
use Rattle.alta_query.proofs.Walks.{passed, stopped, ended}
use Rattle.alta_query.proofs.scan.quote_index.Goals as goal

pub loop-n-preserved : goal.loop-n-preserved
loop-n-preserved c = record {
  within = omega arith;
  same = passed (λ b. not (is_quote b)) c.args.rest.now c.loop-n.n c.loop-n-test.true (ap not (other_byte _ 34 c.if-rest-n-ne34.true)) c.loop-n.invariant.same;
}

pub returns-else-rest-n-ne34-clause-place : goal.returns-else-rest-n-ne34-clause-place
returns-else-rest-n-ne34-clause-place c = stopped (λ b. not (is_quote b)) c.args.rest.now c.loop-n.n c.loop-n-test.true (ap (λ b. not (is_quote b)) c.if-rest-n-ne34.false) c.loop-n.invariant.same

pub returns-after-loop-n-clause-place : goal.returns-after-loop-n-clause-place
returns-after-loop-n-clause-place c = ended (λ b. not (is_quote b)) c.args.rest.now c.loop-n.n c.loop-n-test.false c.loop-n.invariant.same
