use Rattle.std.proofs.Common.{◌≡◌, ◌∷◌, [], ◌++◌, take, cond, nat_eq, sym, ap, subst, ◌∙◌, append-nil}
use Rattle.std.specs.List.{list_any}
use Rattle.std.proofs.lemmas.List.Sorted.{list_any-IsPermutation}
use Rattle.alta_content.specs.Rows.{IsPlaced, end_of, ends_among}
use Rattle.alta_content.specs.Spans.{span_of, deleted_spans}
use Rattle.alta_content.proofs.Outside.{rows_placed}
use Rattle.alta_content.proofs.Searches.{spans-more}
use Rattle.alta_content.proofs.spans.spans_of.Goals as goal
use Rattle.alta_content.proofs.spans.spans_of.Goals.{then-has+in_ok-push, else-has}

pub of-span-requires : goal.of-span-requires
of-span-requires c = subst IsPlaced (sym c.row-item.is) (rows_placed c.args.rows.now c.requires c.loop-row.row-index c.row-item.result c.loop-row-test.true)

pub loop-row-preserved : goal.loop-row-preserved
loop-row-preserved c =
    let i = c.loop-row.row-index in
    let row = c.row-item.result in
    let more = spans-more c.args.deleted.now c.args.rows.now i row c.loop-row-test.true c.row-item.is in
    let sorted_same : list_any (λ x. nat_eq x (end_of row)) c.sort_unstable.new.self.items ≡ ends_among c.args.deleted.now row =
    sym (list_any-IsPermutation (λ x. nat_eq x (end_of row)) c.in_ok-ends.ends.items c.sort_unstable.new.self.items c.sort_unstable.ensures.permutation)
    ∙ ap (λ l. list_any (λ x. nat_eq x (end_of row)) l) c.in_ok-ends.ensures.items in
    let is : c.has.result ≡ ends_among c.args.deleted.now row =
    c.has.ensures ∙ ap (λ l. list_any (λ x. nat_eq x c.of-span.result.last) l) c.deref.ensures.value
    ∙ ap (λ s. list_any (λ x. nat_eq x s.last) c.sort_unstable.new.self.items) c.of-span.ensures ∙ sorted_same in
    let before = deleted_spans c.args.deleted.now (take i c.args.rows.now) in
    elim c.if-has.branch [
      | then-has+in_ok-push w ↦
          ap (λ v. v.items) w.spans-is ∙ w.in_ok-push.ensures.items ∙ ap (λ l. l ++ c.of-span.result ∷ []) c.loop-row.invariant
          ∙ ap (λ s. before ++ s ∷ []) c.of-span.ensures
          ∙ sym (more ∙ ap (λ b. before ++ cond b (span_of row ∷ []) []) (sym is ∙ w.if-has.true))
      | else-has w ↦
          ap (λ v. v.items) w.spans-is ∙ c.loop-row.invariant ∙ sym (append-nil before)
          ∙ sym (more ∙ ap (λ b. before ++ cond b (span_of row ∷ []) []) (sym is ∙ w.if-has.false))
    ]
