use Rattle.std.proofs.Common.{ℕ, List, [], ◌∷◌, map, length, refl, sym, subst, ap, arith}
use Rattle.std.proofs.lemmas.List.{length-map}
use Rattle.std.proofs.lemmas.List.Sums.{sum_by-cons}
use Rattle.std.specs.List.{concat}
use Rattle.alta_codec.specs.Rising.{IsRising}
use Rattle.alta_search.specs.Lists.{level_list, term_lists, IsCut, count_lists}
use Rattle.alta_search.specs.Readers.{IsAtStart, IsFresh}
use Rattle.alta_search.specs.Words.{single_list, single_place, single_left}
use Rattle.alta_search.proofs.Lone.{lone_rises}
use Rattle.alta_search.proofs.LeadReaders.{cut_rises, list_fresh, single_fresh, none_fresh}
use Rattle.alta_search.proofs.leading.word_reader.Goals as goal

pub list_reader-requires : goal.list_reader-requires
list_reader-requires g c = lone_rises (level_list c.in-Some.list.now) (subst IsCut c.in-Some.ensures c.requires.cut)

pub returns-in-Some : goal.returns-in-Some
returns-in-Some g c =
    record {
      sound = c.list_reader.ensures.sound;
      start = let l = level_list c.in-Some.list.now in
          subst (λ terms. IsFresh single_list single_list single_place single_left terms c.list_reader.result) (sym c.in-Some.ensures)
          (list_fresh l c.list_reader.result (lone_rises l (subst IsCut c.in-Some.ensures c.requires.cut)) c.list_reader.ensures.start);
      exact = omega (arith, c.list_reader.ensures.steps, ap count_lists c.in-Some.ensures, sum_by-cons (λ (levels : List (List ℕ)). length levels) (level_list c.in-Some.list.now ∷ []) []);
      most = omega (arith, c.list_reader.ensures.steps, ap count_lists c.in-Some.ensures, sum_by-cons (λ (levels : List (List ℕ)). length levels) (level_list c.in-Some.list.now ∷ []) []);
    }

pub chain_reader-requires : goal.chain_reader-requires
chain_reader-requires g c =
    subst (λ ls. IsRising (concat (map level_list ls))) (sym c.deref.ensures.value)
    (cut_rises (term_lists c.in-Some-only_term.term.now) (map term_lists c.args.terms.now) c.in-Some-only_term.ensures.some c.requires.cut)

pub returns-in_ok-reader-in-Some-only_term : goal.returns-in_ok-reader-in-Some-only_term
returns-in_ok-reader-in-Some-only_term g c =
    record {
      sound = c.in_ok-reader-in-Some-only_term.ensures.sound;
      start = let levels = term_lists c.in-Some-only_term.term.now in let r = c.in_ok-reader-in-Some-only_term.reader in
          let start = subst (λ ls. IsAtStart single_list single_list single_place single_left (concat (map level_list ls)) r) c.deref.ensures.value c.in_ok-reader-in-Some-only_term.ensures.start in
          subst (λ terms. IsFresh single_list single_list single_place single_left terms r) (sym c.in-Some-only_term.ensures.some)
          (single_fresh levels r (cut_rises levels (map term_lists c.args.terms.now) c.in-Some-only_term.ensures.some c.requires.cut) start);
      exact = omega (arith, c.in_ok-reader-in-Some-only_term.ensures.exact, ap length c.deref.ensures.value, length-map c.in-Some-only_term.term.now.levels.items level_list, ap count_lists c.in-Some-only_term.ensures.some, sum_by-cons (λ (levels : List (List ℕ)). length levels) (term_lists c.in-Some-only_term.term.now) []);
      most = omega (arith, c.in_ok-reader-in-Some-only_term.ensures.exact, ap length c.deref.ensures.value, length-map c.in-Some-only_term.term.now.levels.items level_list, ap count_lists c.in-Some-only_term.ensures.some, sum_by-cons (λ (levels : List (List ℕ)). length levels) (term_lists c.in-Some-only_term.term.now) []);
    }

pub returns-in_ok-reader-in-None : goal.returns-in_ok-reader-in-None
returns-in_ok-reader-in-None g c =
    record {
      sound = c.in_ok-reader-in-None.ensures.sound;
      start = subst (λ terms. IsFresh single_list single_list single_place single_left terms c.in_ok-reader-in-None.reader) (sym (c.in-None.ensures.none refl))
          (none_fresh c.in_ok-reader-in-None.reader c.in_ok-reader-in-None.ensures.start);
      exact = omega (arith, c.in_ok-reader-in-None.ensures.exact, ap count_lists (c.in-None.ensures.none refl));
      most = omega (arith, c.in_ok-reader-in-None.ensures.exact, ap count_lists (c.in-None.ensures.none refl));
    }
