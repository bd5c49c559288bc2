use Rattle.std.proofs.Common.{◌≡◌, ◌+◌, ◌≤◌, ◌∷◌, ◌++◌, map, get_or, sym, subst, ap, ◌∙◌, arith}
use Rattle.std.specs.Prelude.{All}
use Rattle.alta_search.specs.Lists.{lists_at, test_at, IsCut}
use Rattle.alta_search.specs.Leads.{IsLeadOf}
use Rattle.alta_search.specs.Met.{IsSingle}
use Rattle.alta_search.specs.Plans.{lists}
use Rattle.alta_search.proofs.Parts.{on_err}
use Rattle.alta_search.proofs.Rarest.{uses_split, uses_length, used_parts, used_lists, over_uses}
use Rattle.alta_search.proofs.leading.by_rarest.Goals as goal

pub led_by_rarest-requires-clause-cut : goal.led_by_rarest-requires-clause-cut
led_by_rarest-requires-clause-cut g c =
    let f = lists_at c.uses.result.0.now in let uses = c.uses.result.1.now in let u = get_or c.split_at.result.0.now 0 0 in let words = c.split_at-2.result.0.now in let against = c.split_at-2.result.1.now in
    let split : uses ≡ u ∷ words ++ against =
    uses_split uses c.split_at.result.0.now c.split_at.result.1.now words against c.len.result
    (omega (arith, uses_length (test_at c.uses.result.0.now) uses c.args.found.now c.args.snapshot.now.tests c.uses.ensures.used c.requires.tests))
    c.split_at.ensures.front c.split_at.ensures.back c.split_at-2.ensures.front c.split_at-2.ensures.back in
    subst (λ ns. All IsCut (map f (u ∷ words ++ ns))) (sym (c.deref.ensures.value ∙ c.in_ok-negated.ensures)) (used_parts f uses words against u split IsCut c.uses.ensures.cut)

pub led_by_rarest-requires-clause-single : goal.led_by_rarest-requires-clause-single
led_by_rarest-requires-clause-single g c =
    let f = lists_at c.uses.result.0.now in let uses = c.uses.result.1.now in let u = get_or c.split_at.result.0.now 0 0 in let words = c.split_at-2.result.0.now in let against = c.split_at-2.result.1.now in
    let split : uses ≡ u ∷ words ++ against =
    uses_split uses c.split_at.result.0.now c.split_at.result.1.now words against c.len.result
    (omega (arith, uses_length (test_at c.uses.result.0.now) uses c.args.found.now c.args.snapshot.now.tests c.uses.ensures.used c.requires.tests))
    c.split_at.ensures.front c.split_at.ensures.back c.split_at-2.ensures.front c.split_at-2.ensures.back in
    subst (λ ns. All IsSingle (map f (u ∷ words ++ ns))) (sym (c.deref.ensures.value ∙ c.in_ok-negated.ensures))
    (used_parts f uses words against u split IsSingle (c.uses.ensures.single c.requires.exact))

pub returns-clause-led : goal.returns-clause-led
returns-clause-led g c =
    let f = lists_at c.uses.result.0.now in let uses = c.uses.result.1.now in let u = get_or c.split_at.result.0.now 0 0 in let words = c.split_at-2.result.0.now in let against = c.split_at-2.result.1.now in
    let split : uses ≡ u ∷ words ++ against =
    uses_split uses c.split_at.result.0.now c.split_at.result.1.now words against c.len.result
    (omega (arith, uses_length (test_at c.uses.result.0.now) uses c.args.found.now c.args.snapshot.now.tests c.uses.ensures.used c.requires.tests))
    c.split_at.ensures.front c.split_at.ensures.back c.split_at-2.ensures.front c.split_at-2.ensures.back in
    over_uses f uses words against u split c.args.found.now c.args.snapshot.now c.in_ok-reader.reader c.args.from c.args.steps.now c.led_by_rarest.new.steps
    (subst (λ ns. IsLeadOf (f u) (map f words) (map f ns) c.in_ok-reader.reader c.args.from c.args.steps.now c.led_by_rarest.new.steps)
    (c.deref.ensures.value ∙ c.in_ok-negated.ensures) c.in_ok-reader.ensures.led)
    c.uses.ensures.cuts (omega (arith, c.split_at-2.ensures.front_len, c.len.ensures)) c.requires.tests
    (subst (All IsCut) c.uses.ensures.cuts c.uses.ensures.cut) (subst (All IsSingle) c.uses.ensures.cuts (c.uses.ensures.single c.requires.exact))

pub returns-in_err-reader-clause-failed : goal.returns-in_err-reader-clause-failed
returns-in_err-reader-clause-failed g c =
    let f = lists_at c.uses.result.0.now in let uses = c.uses.result.1.now in let u = get_or c.split_at.result.0.now 0 0 in let words = c.split_at-2.result.0.now in let against = c.split_at-2.result.1.now in
    let split : uses ≡ u ∷ words ++ against =
    uses_split uses c.split_at.result.0.now c.split_at.result.1.now words against c.len.result
    (omega (arith, uses_length (test_at c.uses.result.0.now) uses c.args.found.now c.args.snapshot.now.tests c.uses.ensures.used c.requires.tests))
    c.split_at.ensures.front c.split_at.ensures.back c.split_at-2.ensures.front c.split_at-2.ensures.back in
    on_err c.from_residual-in_err-reader.result (c.led_by_rarest.new.steps ≤ c.args.steps.now + lists c.args.snapshot.now.cuts)
    (omega (
      arith,
      c.in_err-reader.ensures.failed,
      ap (λ ns. lists (map f (u ∷ words ++ ns))) (c.deref.ensures.value ∙ c.in_ok-negated.ensures),
      used_lists f uses words against u split,
      ap lists c.uses.ensures.cuts,
    ))
