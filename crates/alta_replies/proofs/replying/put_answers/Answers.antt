use Rattle.alta_replies.proofs.SearchLaws.{written_more}
use Rattle.alta_replies.proofs.replying.put_answers.Goals as goal

pub loop-index-preserved : goal.loop-index-preserved
loop-index-preserved c = written_more _ _ _ _ c.args.answers.now c.loop-index.index _ c.row-row.ensures c.loop-index.invariant c.as_str.ensures c.in_ok-put_answer.ensures
