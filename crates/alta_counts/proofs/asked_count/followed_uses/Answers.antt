use Rattle.std.proofs.Common.{◌≡◌, [], map, length, get_or, sym, subst, ap, arith}
use Rattle.std.specs.Prelude.{All}
use Rattle.alta_lead.specs.Followed.{ends_followed}
use Rattle.alta_counts.specs.Live.{count_live}
use Rattle.alta_search.specs.Lists.{test_list, lists_at, IsCut}
use Rattle.alta_search.specs.Met.{IsSingle}
use Rattle.alta_search.specs.Plans.{lists, locations}
use Rattle.alta_counts.proofs.Titled.{first_use}
use Rattle.alta_counts.proofs.asked_count.followed_uses.Goals as goal

pub asked_lists-requires-clause-pair : goal.asked_lists-requires-clause-pair
asked_lists-requires-clause-pair g c = λ _.
    let s = c.split_at in omega (arith, c.requires.three, ap length (first_use c.args.uses.now s.result.0.now s.result.1.now (omega (arith, c.requires.three)) s.ensures.front s.ensures.back))

pub asked_lists-requires-clause-cut : goal.asked_lists-requires-clause-cut
asked_lists-requires-clause-cut g c =
    let s = c.split_at in let f = lists_at c.args.tests.now in
    subst (λ us. All IsCut (map f us)) (first_use c.args.uses.now s.result.0.now s.result.1.now (omega (arith, c.requires.three)) s.ensures.front s.ensures.back) c.requires.cut

pub asked_lists-requires-clause-single : goal.asked_lists-requires-clause-single
asked_lists-requires-clause-single g c =
    let s = c.split_at in let f = lists_at c.args.tests.now in
    subst (λ us. All IsSingle (map f us)) (first_use c.args.uses.now s.result.0.now s.result.1.now (omega (arith, c.requires.three)) s.ensures.front s.ensures.back) c.requires.single

pub returns-clause-count : goal.returns-clause-count
returns-clause-count g c =
    let s = c.split_at in let f = lists_at c.args.tests.now in
    subst (λ us. c.in_ok-live.live ≡ count_live (ends_followed (get_or (map test_list (map f us)) 0 []) (get_or (map test_list (map f us)) 1 []) (get_or (map test_list (map f us)) 2 [])) c.args.gone.now 0)
    (sym (first_use c.args.uses.now s.result.0.now s.result.1.now (omega (arith, c.requires.three)) s.ensures.front s.ensures.back)) c.in_ok-live.ensures.count

pub returns-clause-most : goal.returns-clause-most
returns-clause-most g c =
    let s = c.split_at in let f = lists_at c.args.tests.now in let split = first_use c.args.uses.now s.result.0.now s.result.1.now (omega (arith, c.requires.three)) s.ensures.front s.ensures.back in
    omega (arith, c.asked_lists.ensures.most, ap (λ us. lists (map f us)) split, ap (λ us. locations (map f us)) split)

pub returns-in_err-live-clause-most : goal.returns-in_err-live-clause-most
returns-in_err-live-clause-most g c =
    let s = c.split_at in let f = lists_at c.args.tests.now in let split = first_use c.args.uses.now s.result.0.now s.result.1.now (omega (arith, c.requires.three)) s.ensures.front s.ensures.back in
    omega (arith, c.asked_lists.ensures.most, ap (λ us. lists (map f us)) split, ap (λ us. locations (map f us)) split)
