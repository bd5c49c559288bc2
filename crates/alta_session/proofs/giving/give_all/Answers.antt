use Rattle.std.proofs.Common.{rules, arith}
use Rattle.std.proofs.lemmas.Grind.{common_steps}
use Rattle.alta_console.proofs.GivingLaws.{gives_more, gives_part}
use Rattle.alta_session.proofs.giving.give_all.Goals as goal

pub returns-in-Err-clause-err : goal.returns-in-Err-clause-err
returns-in-Err-clause-err g c = gives_part _ _ _ c.args.bytes.now c.loop-sent.sent c.loop-sent-test.true c.loop-sent.invariant.gave c.in-Err.ensures.not_told

pub loop-sent-preserved : goal.loop-sent-preserved
loop-sent-preserved g c = record {
  within = grind (arith, common_steps);
  gave = gives_more _ _ _ c.args.bytes.now c.loop-sent.sent c.in-Ok.n c.loop-sent.invariant.gave c.in-Ok.ensures.given;
  input_kept = search rules;
  take_count = search rules;
  give_count = search rules;
}
