use Rattle.std.proofs.Common.{◌≡◌, ◌<◌, map, length, ap, ◌∙◌, arith, rules}
use Rattle.std.proofs.lemmas.List.{length-map}
use Rattle.alta_compile.specs.Space.{list_of, ends_of}
use Rattle.alta_lead.specs.Having.{ends_with_any}
use Rattle.alta_counts.specs.Live.{count_live}
use Rattle.alta_counts.specs.Either.{either_tests, seconds}
use Rattle.alta_search.specs.Lists.{test_list, test_at, lists_at}
use Rattle.alta_search.specs.Plans.{lists, locations}
use Rattle.alta_counts.proofs.Either.{used_words, used_ends}
use Rattle.alta_counts.proofs.asked_count.count_either.Goals as goal

pub any_of_uses-requires-clause-some : goal.any_of_uses-requires-clause-some
any_of_uses-requires-clause-some g c =
    omega (arith, c.requires.some, ap length c.uses.ensures.used, length-map c.uses.result.1.now (test_at c.uses.result.0.now))

pub any_of_uses-requires-clause-single : goal.any_of_uses-requires-clause-single
any_of_uses-requires-clause-single g c = c.uses.ensures.single c.requires.exact

pub returns : goal.returns
returns g c = record {
  answer = λ space words shows fits.
      let f = lists_at c.uses.result.0.now in let us = c.uses.result.1.now in
      let some : 0 < length us = omega (arith, c.requires.some, ap length c.uses.ensures.used, length-map us (test_at c.uses.result.0.now)) in
      let shown : map test_list (map f us) ≡ map (list_of space) (either_tests words) = ap (map test_list) c.uses.ensures.cuts ∙ shows.lists ∙ ap (map (list_of space)) fits in
      c.in_ok-live.ensures.count
      ∙ ap (λ es. count_live (ends_with_any es (map test_list (map f (seconds us)))) c.gone.result.now 0) (used_ends f space words us some shown)
      ∙ ap (λ ls. count_live (ends_with_any (ends_of space) ls) c.gone.result.now 0) (used_words f space words us shown)
      ∙ ap (λ gone. count_live (ends_with_any (ends_of space) (map (list_of space) words)) gone 0) c.gone.ensures.value;
  most = omega (arith, c.any_of_uses.ensures.most, ap lists c.uses.ensures.cuts, ap locations c.uses.ensures.cuts);
}

pub returns-in_err-live : goal.returns-in_err-live
returns-in_err-live g c = record { answer = search rules; most = omega (arith, c.any_of_uses.ensures.most, ap lists c.uses.ensures.cuts, ap locations c.uses.ensures.cuts) }
