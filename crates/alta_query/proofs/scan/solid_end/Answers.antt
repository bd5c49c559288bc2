use Rattle.std.proofs.Common.{sym, ap, ◌∙◌, arith}
use Rattle.std.specs.Prelude.{not}
use Rattle.alta_machine.specs.Spots.{is_solid}
use Rattle.alta_query.proofs.Walks.{passed, stopped, ended}
use Rattle.alta_query.proofs.scan.solid_end.Goals as goal

pub loop-n-preserved : goal.loop-n-preserved
loop-n-preserved c = record {
  within = omega arith;
  same = passed is_solid c.args.rest.now c.loop-n.n c.loop-n-test.true (ap not (sym c.blank.ensures ∙ c.if-not-blank.true)) c.loop-n.invariant.same;
}

pub returns-else-not-blank : goal.returns-else-not-blank
returns-else-not-blank c = record { len = stopped is_solid c.args.rest.now c.loop-n.n c.loop-n-test.true (ap not (sym c.blank.ensures ∙ c.if-not-blank.false)) c.loop-n.invariant.same; within = c.loop-n.invariant.within }

pub returns-after-loop-n : goal.returns-after-loop-n
returns-after-loop-n c = record { len = ended is_solid c.args.rest.now c.loop-n.n c.loop-n-test.false c.loop-n.invariant.same; within = c.loop-n.invariant.within }
