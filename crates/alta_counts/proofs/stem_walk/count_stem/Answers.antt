use Rattle.std.proofs.Common.{◌≡◌, [], ◌∷◌, map, drop, length, get_or, ap, ◌∙◌, arith, rules}
use Rattle.std.proofs.lemmas.List.{length-map}
use Rattle.alta_compile.specs.Space.{document_end, ends_of, list_of}
use Rattle.alta_lead.specs.Having.{ends_with_any}
use Rattle.alta_counts.specs.Live.{count_live}
use Rattle.alta_search.specs.Lists.{test_list, test_at, lists_at}
use Rattle.alta_search.specs.Plans.{lists, locations}
use Rattle.alta_counts.proofs.stem_walk.count_stem.Goals as goal

pub stem_uses-requires-clause-some : goal.stem_uses-requires-clause-some
stem_uses-requires-clause-some g c =
    omega (arith, c.requires.some, ap length c.uses.ensures.used, length-map c.uses.result.1.now (test_at c.uses.result.0.now))

pub returns : goal.returns
returns g c = record {
  answer = λ space stem shows fits.
      let f = lists_at c.uses.result.0.now in let us = c.uses.result.1.now in
      let shown : map test_list (map f us) ≡ map (list_of space) (document_end ∷ stem ∷ []) =
      ap (map test_list) c.uses.ensures.cuts ∙ shows.lists ∙ ap (map (list_of space)) fits in
      c.in_ok-live.ensures.count
      ∙ ap (λ ls. count_live (ends_with_any (get_or ls 0 []) (drop 1 ls)) c.gone.result.now 0) shown
      ∙ ap (λ gone. count_live (ends_with_any (ends_of space) (list_of space stem ∷ [])) gone 0) c.gone.ensures.value;
  most = omega (arith, c.stem_uses.ensures.most, ap lists c.uses.ensures.cuts, ap locations c.uses.ensures.cuts);
}

pub returns-in_err-live : goal.returns-in_err-live
returns-in_err-live g c = record { answer = search rules; most = omega (arith, c.stem_uses.ensures.most, ap lists c.uses.ensures.cuts, ap locations c.uses.ensures.cuts) }
