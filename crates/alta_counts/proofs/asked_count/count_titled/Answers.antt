use Rattle.std.proofs.Common.{◌≡◌, [], ◌∷◌, map, length, get_or, ap, ◌∙◌, arith, rules}
use Rattle.std.proofs.lemmas.List.{length-map}
use Rattle.alta_compile.specs.Space.{document_end, ends_of, list_of}
use Rattle.alta_lead.specs.Followed.{ends_followed}
use Rattle.alta_machine.specs.Patterns.{title_end}
use Rattle.alta_counts.specs.Live.{count_live}
use Rattle.alta_search.specs.Lists.{test_list, test_at, lists_at}
use Rattle.alta_search.specs.Plans.{lists, locations}
use Rattle.alta_counts.proofs.asked_count.count_titled.Goals as goal

pub followed_uses-requires-clause-three : goal.followed_uses-requires-clause-three
followed_uses-requires-clause-three g c =
    omega (arith, c.requires.three, ap length c.uses.ensures.used, length-map c.uses.result.1.now (test_at c.uses.result.0.now))

pub followed_uses-requires-clause-single : goal.followed_uses-requires-clause-single
followed_uses-requires-clause-single g c = c.uses.ensures.single c.requires.exact

pub returns : goal.returns
returns g c = record {
  answer = λ space word shows fits.
      let f = lists_at c.uses.result.0.now in let us = c.uses.result.1.now in
      let shown : map test_list (map f us) ≡ map (list_of space) (document_end ∷ word ∷ title_end ∷ []) =
      ap (map test_list) c.uses.ensures.cuts ∙ shows.lists ∙ ap (map (list_of space)) fits in
      c.in_ok-live.ensures.count
      ∙ ap (λ ls. count_live (ends_followed (get_or ls 0 []) (get_or ls 1 []) (get_or ls 2 [])) c.gone.result.now 0) shown
      ∙ ap (λ gone. count_live (ends_followed (ends_of space) (list_of space word) (list_of space title_end)) gone 0) c.gone.ensures.value;
  most = omega (arith, c.followed_uses.ensures.most, ap lists c.uses.ensures.cuts, ap locations c.uses.ensures.cuts);
}

pub returns-in_err-live : goal.returns-in_err-live
returns-in_err-live g c = record { answer = search rules; most = omega (arith, c.followed_uses.ensures.most, ap lists c.uses.ensures.cuts, ap locations c.uses.ensures.cuts) }
