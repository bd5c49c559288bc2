use Rattle.std.proofs.Common.{rules}
use Rattle.alta_replies.proofs.SearchLaws.{score_written}
use Rattle.alta_replies.proofs.replying.put_scores.Goals as goal

pub loop-answer-preserved : goal.loop-answer-preserved
loop-answer-preserved c =
    score_written _ _ _ _ c.args.answers.now c.loop-answer.answer-index c.answer-item.result (search rules) c.answer-item.is c.loop-answer.invariant c.as_str.ensures c.in_ok-put_score.ensures
