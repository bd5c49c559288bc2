use Rattle.std.proofs.Common.{◌++◌, ℕ, List, [], ap, subst, ◌∙◌}
use Rattle.alta_query.specs.View.{shape}
use Rattle.alta_machine.specs.Uses.{uses_of}
use Rattle.alta_machine.specs.Machine.{IsRefusal}
use Rattle.alta_machine.specs.Searching.{found_line, score_lines}
use Rattle.alta_replies.proofs.CursorLaws.{no_refusal, scores_other}
use Rattle.alta_replies.proofs.SearchLaws.{best_are}
use Rattle.alta_replies.proofs.searching.best.Goals as goal

pub returns : goal.returns
returns g c = record {
  lines = λ documents to_rank.
      best_are _ _ c.in_ok-best.best (uses_of (shape c.args.query.now)) documents c.args.count (c.in_ok-best.ensures.best c.requires.read documents to_rank)
      (c.in_ok-put_scores.ensures ∙ ap (λ (l : List ℕ). l ++ score_lines c.as_slice.result.now) c.new-reply.ensures.bytes ∙ ap (λ l. [] ++ score_lines l) c.as_slice.ensures) c.in_ok-put_count.ensures;
  other = λ refusal.
      let is = c.in_ok-put_count.ensures ∙ ap (λ (l : List ℕ). l ++ found_line c.in_ok-best.best.total) (c.in_ok-put_scores.ensures ∙ ap (λ (l : List ℕ). l ++ score_lines c.as_slice.result.now) c.new-reply.ensures.bytes) in
      no_refusal _ (scores_other c.as_slice.result.now c.in_ok-best.best.total) (subst IsRefusal is refusal);
}
