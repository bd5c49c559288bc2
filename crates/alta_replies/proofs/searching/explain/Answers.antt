use Rattle.alta_query.specs.View.{shape}
use Rattle.alta_replies.proofs.SearchLaws.{is_written, parsed, not_parsed, explain_found, explain_refused}
use Rattle.alta_replies.proofs.searching.explain.Goals as goal

pub returns : goal.returns
returns c = record {
  reply = explain_found c.written-reply.result c.args.text.now (shape c.in-Ok.query) (parsed c.parse.result c.in-Ok.query c.args.text.now c.in-Ok.is c.parse.ensures.reading)
      (is_written c.written-reply.result c.with_plan.result _ c.written-reply.ensures.reply c.with_plan.ensures);
  memory = c.written-reply.ensures.memory;
}

pub returns-in-Err : goal.returns-in-Err
returns-in-Err c = record {
  reply = explain_refused c.refused.result c.args.text.now c.in-Err.fault (not_parsed c.parse.result c.in-Err.fault c.args.text.now c.in-Err.is c.parse.ensures.reading) c.refused.ensures.reply.reply c.refused.ensures.wanting;
  memory = c.refused.ensures.reply.memory;
}
