use Rattle.std.proofs.Common.{ℕ, List, map, subst, ap, ◌∙◌}
use Rattle.alta_codec.specs.Rising.{IsRising}
use Rattle.alta_search.specs.Told.{answer_of, rows_at}
use Rattle.alta_content.specs.Rows.{end_of}
use Rattle.alta_search.proofs.Paging.{page_none}
use Rattle.alta_cursors.proofs.cursor.last.Goals as goal

pub returns : goal.returns
returns c = λ space plan from count steps past.
    page_none space plan c.args.snapshot.now from count steps c.new-answers.result
    (subst (λ rows. IsRising (map end_of rows)) c.rows.ensures.value c.rows.ensures.rising) past
    (c.new-answers.ensures ∙ ap (λ (is : List ℕ). map answer_of (rows_at c.in_ok-share.field-0 is)) c.new-picks.ensures.items)
