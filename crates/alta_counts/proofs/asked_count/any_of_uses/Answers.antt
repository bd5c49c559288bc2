use Rattle.std.proofs.Common.{◌∷◌, map, get_or, sym, subst, ap, ◌∙◌, arith}
use Rattle.std.specs.Prelude.{All}
use Rattle.alta_lead.specs.Having.{ends_with_any}
use Rattle.alta_counts.specs.Live.{count_live}
use Rattle.alta_search.specs.Lists.{test_list, lists_at, IsCut, count_lists, count_locations}
use Rattle.alta_search.specs.Met.{IsSingle}
use Rattle.alta_search.specs.Plans.{lists, locations}
use Rattle.alta_counts.proofs.Either.{used_all, used_sum}
use Rattle.alta_counts.proofs.asked_count.any_of_uses.Goals as goal

pub asked_lists-requires-clause-pair : goal.asked_lists-requires-clause-pair
asked_lists-requires-clause-pair g c = λ yes. absurd cc

pub asked_lists-requires-clause-cut : goal.asked_lists-requires-clause-cut
asked_lists-requires-clause-cut g c =
    let f = lists_at c.args.tests.now in let us = c.args.uses.now in
    subst (λ ws. All IsCut (map f (get_or us 0 0 ∷ ws))) (sym (c.deref.ensures.value ∙ c.in_ok-words.ensures)) (used_all f IsCut us c.requires.some c.requires.cut)

pub asked_lists-requires-clause-single : goal.asked_lists-requires-clause-single
asked_lists-requires-clause-single g c =
    let f = lists_at c.args.tests.now in let us = c.args.uses.now in
    subst (λ ws. All IsSingle (map f (get_or us 0 0 ∷ ws))) (sym (c.deref.ensures.value ∙ c.in_ok-words.ensures)) (used_all f IsSingle us c.requires.some c.requires.single)

pub returns-clause-count : goal.returns-clause-count
returns-clause-count g c =
    let f = lists_at c.args.tests.now in let us = c.args.uses.now in
    c.in_ok-live.ensures.count
    ∙ ap (λ ws. count_live (ends_with_any (test_list (f (get_or us 0 0))) (map test_list (map f ws))) c.args.gone.now 0) (c.deref.ensures.value ∙ c.in_ok-words.ensures)

pub returns-clause-most : goal.returns-clause-most
returns-clause-most g c =
    let f = lists_at c.args.tests.now in let us = c.args.uses.now in let same = c.deref.ensures.value ∙ c.in_ok-words.ensures in
    omega (
      arith,
      c.asked_lists.ensures.most,
      ap (λ ws. lists (map f (get_or us 0 0 ∷ ws))) same,
      ap (λ ws. locations (map f (get_or us 0 0 ∷ ws))) same,
      used_sum f count_lists us c.requires.some,
      used_sum f count_locations us c.requires.some,
    )

pub returns-in_err-live-clause-most : goal.returns-in_err-live-clause-most
returns-in_err-live-clause-most g c =
    let f = lists_at c.args.tests.now in let us = c.args.uses.now in let same = c.deref.ensures.value ∙ c.in_ok-words.ensures in
    omega (
      arith,
      c.asked_lists.ensures.most,
      ap (λ ws. lists (map f (get_or us 0 0 ∷ ws))) same,
      ap (λ ws. locations (map f (get_or us 0 0 ∷ ws))) same,
      used_sum f count_lists us c.requires.some,
      used_sum f count_locations us c.requires.some,
    )
