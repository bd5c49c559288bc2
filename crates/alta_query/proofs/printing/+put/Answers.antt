use Rattle.std.proofs.Common.{sym, ap, ◌∙◌}
use Rattle.std.specs.Prelude.{string_bytes}
use Rattle.alta_query.specs.View.{shape}
use Rattle.alta_machine.specs.Canon.{canon, parens_if}
use Rattle.alta_machine.specs.Spelling.{with_tokens}
use Rattle.alta_query.proofs.Printed.{all_step, or_step}
use Rattle.alta_query.proofs.printing.+put.Goals as goal

pub put_query-loop-member-preserved : goal.put_query-loop-member-preserved
put_query-loop-member-preserved t c =
    all_step c.deref-member-items.result.now c.loop-member.member-index c.member-item.result (string_bytes c.loop-member.out) (string_bytes c.put_in.new.out) _ c.loop-member-test.true (sym c.member-item.is) c.loop-member.invariant
    (c.in_ok-put_in-in-And.ensures ∙ ap (λ b. with_tokens (string_bytes c.loop-member.out) (parens_if b (canon (shape c.member-item.result)))) c.compound.ensures)

pub put_query-loop-member-2-preserved : goal.put_query-loop-member-2-preserved
put_query-loop-member-2-preserved t c =
    let q = c.member-item-in-loop-member-2.result in
    or_step c.loop-member-2.first c.deref-member-items-in-Or.result.now c.loop-member-2.member-index q (string_bytes c.loop-member-2.out) (string_bytes c.put_or.new.out) (string_bytes c.put_in-in-loop-member-2.new.out) _ c.loop-member-2-test.true (sym c.member-item-in-loop-member-2.is) c.loop-member-2.invariant
    c.in_ok-put_or-in-Or.ensures
    (c.in_ok-put_in-in-Or.ensures ∙ ap (λ b. with_tokens (string_bytes c.put_or.new.out) (parens_if b (canon (shape q)))) c.either.ensures)
