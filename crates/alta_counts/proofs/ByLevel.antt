-- The lists of tests that have one term at most, by level, and what a conjunction counts over them.
use Rattle.std.proofs.Common.{◌≡◌, inl, ℕ, true, ◌+◌, ◌*◌, ◌<◌, ◌≤◌, List, [], ◌∷◌, ◌++◌, map, length, get_or, take, take_all, refl, sym, subst, ap, ◌∙◌, arith}
use Rattle.std.specs.Prelude.{All, Some}
use Rattle.std.specs.List.{concat}
use Rattle.std.proofs.lemmas.List.Elements.{All-nil, All-cons, All-head, All-tail}
use Rattle.std.proofs.lemmas.List.Sums.{sum_by-cons}
use Rattle.std.proofs.lemmas.Nat.{mul-le}
use Rattle.alta_codec.specs.declared.location.TheConstants.{TOP}
use Rattle.alta_codec.specs.Rising.{IsRising, first_from}
use Rattle.alta_codec.proofs.Places.{first_from-place}
use Rattle.alta_compile.specs.Space.{Placed, ends_of, list_of}
use Rattle.alta_compile.specs.declared.asked.Conjunction.{Conjunction}
use Rattle.alta_compound.specs.Unions.{rising_from_above}
use Rattle.alta_lead.specs.Having.{ends_having}
use Rattle.alta_lead.specs.HavingLaws.{having-rises}
use Rattle.alta_counts.specs.ByLevel.{cut_at, levels_of, whole_at, having_all, passed_lists, passed_size, AreWindowSteps}
use Rattle.alta_search.specs.Conjoined.{conjoined_tests}
use Rattle.alta_search.specs.Leads.{thirds, IsLeadOf}
use Rattle.alta_search.specs.Lists.{test_list, lists_at, IsCut, count_lists, count_locations}
use Rattle.alta_search.specs.Met.{IsSingle}
use Rattle.alta_search.specs.Plans.{lists, locations}
use Rattle.alta_search.specs.View.{View, Shows}
use Rattle.alta_search.specs.Walked.{AreSearchSteps}
use Rattle.alta_search.specs.Walks.{PlanView}
use Rattle.alta_search.specs.declared.lists.TestLists.{TestLists}
use Rattle.alta_machine.specs.declared.test.Test.{Test}
use Rattle.alta_compound.specs.Union.{union_of}
use Rattle.alta_search.proofs.Parts.{all_parts, item_at}
use Rattle.alta_counts.proofs.Cutting.{cut_top}
use Rattle.alta_search.proofs.LeadReaders.{single_whole}
use Rattle.alta_search.proofs.Rarest.{over_uses, size_over, used_lists, used_locations}

abbrev Cut : Type 0
Cut = List (List (List ℕ))

-- ---- the one term of a test

abbrev IsCutTerm : List (List ℕ) → Type 0
IsCutTerm levels = All (λ (list : List ℕ). 0 < length list) levels × IsRising (concat levels)

pub term_rises : (terms : Cut) → IsCut terms → IsRising (concat (get_or terms 0 []))
term_rises [] cut = rising_from_above [] tt
term_rises (levels ∷ terms) cut = (All-head IsCutTerm levels terms cut).1

pub term_whole : (terms : Cut) → IsCut terms → IsSingle terms → concat (get_or terms 0 []) ≡ test_list terms
unfolding union_of
term_whole [] cut one = refl
term_whole (levels ∷ []) cut one = sym (single_whole levels (All-head IsCutTerm levels [] cut).1)
term_whole (a ∷ b ∷ terms) cut one = absurd (omega (arith, one))

term_lists : (terms : Cut) → IsSingle terms → length (get_or terms 0 []) ≡ count_lists terms
term_lists [] one = refl
term_lists (levels ∷ []) one = omega (arith, sum_by-cons (λ (ls : List (List ℕ)). length ls) levels [])
term_lists (a ∷ b ∷ terms) one = absurd (omega (arith, one))

term_size : (terms : Cut) → IsSingle terms → length (concat (get_or terms 0 [])) ≡ count_locations terms
term_size [] one = refl
term_size (levels ∷ []) one = omega (arith, sum_by-cons (λ (ls : List (List ℕ)). length (concat ls)) levels [])
term_size (a ∷ b ∷ terms) one = absurd (omega (arith, one))

-- ---- several tests

module _ (tests : List TestLists) where
  pub each_rises : (us : List ℕ) → All IsCut (map (lists_at tests) us) → All (λ u. IsRising (whole_at tests u)) us
  each_rises [] cut = All-nil (λ u. IsRising (whole_at tests u))
  each_rises (u ∷ us) cut =
      All-cons (λ u. IsRising (whole_at tests u)) u us (term_rises (lists_at tests u) (All-head IsCut (lists_at tests u) (map (lists_at tests) us) cut))
      (each_rises us (All-tail IsCut (lists_at tests u) (map (lists_at tests) us) cut))

  pub each_whole : (us : List ℕ) → All IsCut (map (lists_at tests) us) → All IsSingle (map (lists_at tests) us) → map (whole_at tests) us ≡ map test_list (map (lists_at tests) us)
  each_whole [] cut one = refl
  each_whole (u ∷ us) cut one =
      let f = lists_at tests in
      ap (λ l. l ∷ map (whole_at tests) us) (term_whole (f u) (All-head IsCut (f u) (map f us) cut) (All-head IsSingle (f u) (map f us) one))
      ∙ ap (λ ls. test_list (f u) ∷ ls) (each_whole us (All-tail IsCut (f u) (map f us) cut) (All-tail IsSingle (f u) (map f us) one))

  -- up to TOP there are all lists with all locations
  pub top_lists : (us : List ℕ) → All IsCut (map (lists_at tests) us) → All IsSingle (map (lists_at tests) us) → passed_lists (levels_of tests) us TOP ≡ lists (map (lists_at tests) us)
  top_lists [] cut one = refl
  top_lists (u ∷ us) cut one =
      let f = lists_at tests in let c = All-head IsCut (f u) (map f us) cut in let o = All-head IsSingle (f u) (map f us) one in
      omega (
        arith,
        sum_by-cons (λ u. cut_at TOP (levels_of tests u)) u us,
        sum_by-cons count_lists (f u) (map f us),
        cut_top (levels_of tests u) (term_rises (f u) c),
        term_lists (f u) o,
        top_lists us (All-tail IsCut (f u) (map f us) cut) (All-tail IsSingle (f u) (map f us) one),
      )

  pub top_size : (us : List ℕ) → All IsCut (map (lists_at tests) us) → All IsSingle (map (lists_at tests) us) → passed_size (levels_of tests) us TOP ≡ locations (map (lists_at tests) us)
  top_size [] cut one = refl
  top_size (u ∷ us) cut one =
      let f = lists_at tests in let c = All-head IsCut (f u) (map f us) cut in let o = All-head IsSingle (f u) (map f us) one in
      omega (
        arith,
        sum_by-cons (λ u. length (concat (take (cut_at TOP (levels_of tests u)) (levels_of tests u)))) u us,
        sum_by-cons count_locations (f u) (map f us),
        ap (λ ls. length (concat ls)) (take_all (cut_at TOP (levels_of tests u)) (levels_of tests u) (omega (arith, cut_top (levels_of tests u) (term_rises (f u) c)))),
        term_size (f u) o,
        top_size us (All-tail IsCut (f u) (map f us) cut) (All-tail IsSingle (f u) (map f us) one),
      )

-- ---- a conjunction over the snapshot of the tests of its plan

chain_le : (a b x y n m : ℕ) → a ≤ b + x * (2 * n + 4) → x ≤ y → n ≤ m → a ≤ b + y * (2 * m + 4)
chain_le a b x y n m h k l = let e : x * (2 * n + 4) ≤ y * (2 * m + 4) = mul-le x (2 * n + 4) y (2 * m + 4) k (omega (arith, l)) in omega (arith, h, e)

module _ (tests : List TestLists) (uses words against : List ℕ) (u : ℕ) (split : uses ≡ u ∷ words ++ against) (c : Conjunction) (v : View)
    (same : map (lists_at tests) uses ≡ v.cuts) (sized : length words ≡ length c.words) (fits : v.tests ≡ conjoined_tests c) (cut : All IsCut v.cuts) (single : All IsSingle v.cuts)
    (cut_here : All IsCut (map (lists_at tests) (u ∷ words ++ thirds against))) (single_here : All IsSingle (map (lists_at tests) (u ∷ words ++ thirds against)))
    (lead : ℕ) (within : lead < length words)
    (least : (k : ℕ) → k < length words → count_locations (lists_at tests (get_or words lead 0)) ≤ count_locations (lists_at tests (get_or words k 0)))
    (before after : ℕ) (is : AreWindowSteps (levels_of tests) (u ∷ words ++ thirds against) (Some (length (whole_at tests (get_or words lead 0)))) 0 TOP before after) where
  abbrev f : ℕ → Cut
  f = lists_at tests

  abbrev ns : List ℕ
  ns = thirds against

  ends_cut : IsCut (f u)
  ends_cut = All-head IsCut (f u) (map f (words ++ ns)) cut_here

  ends_single : IsSingle (f u)
  ends_single = All-head IsSingle (f u) (map f (words ++ ns)) single_here

  abbrev all : List ℕ
  all = ends_having (test_list (f u)) (map test_list (map f words)) (map test_list (map f ns))

  ends_rise : IsRising (test_list (f u))
  ends_rise = subst IsRising (term_whole (f u) ends_cut ends_single) (term_rises (f u) ends_cut)

  -- a reader that has nothing left reads what the words say
  abbrev seen : PlanView
  seen = record { list = all; all = []; place = first_from all 0; left = 0; moves = 0; one = true }

  seen_is : IsLeadOf (f u) (map f words) (map f ns) seen 0 0 0
  seen_is = record {
    stands = record { rising = having-rises (test_list (f u)) (map test_list (map f words)) (map test_list (map f ns)) ends_rise; stands = first_from-place all 0 };
    list = refl;
    one = refl;
    place = refl;
    steps = omega arith;
    lazy = λ place. omega arith;
    moves = inl (omega arith);
  }

  reads : (space : List Placed) → Shows space v → all ≡ ends_having (ends_of space) (map (list_of space) c.words) (map (list_of space) c.negated)
  reads space shows = (over_uses f uses words against u split c v seen 0 0 0 seen_is same sized fits cut single).reads space shows

  parts : (P : Cut → Type 0) → All P (map f (u ∷ words ++ ns)) → P (f u) × All P (map f words) × All P (map f ns)
  parts P h = all_parts P f u words ns h

  pub conjoined : (space : List Placed) → Shows space v
      → having_all tests u words ns ≡ ends_having (ends_of space) (map (list_of space) c.words) (map (list_of space) c.negated)
  conjoined space shows =
      let a = parts IsCut cut_here in let b = parts IsSingle single_here in
      ap (λ l. ends_having l (map (whole_at tests) words) (map (whole_at tests) ns)) (term_whole (f u) a.0 b.0)
      ∙ ap (λ ls. ends_having (test_list (f u)) ls (map (whole_at tests) ns)) (each_whole tests words a.1 b.1)
      ∙ ap (ends_having (test_list (f u)) (map test_list (map f words))) (each_whole tests ns a.2 b.2)
      ∙ reads space shows

  lead_size : length (whole_at tests (get_or words lead 0)) ≡ count_locations (f (get_or words lead 0))
  lead_size = term_size (f (get_or words lead 0)) (item_at IsSingle f words lead 0 within (parts IsSingle single_here).1)

  by_each : (space : List Placed) (shows : Shows space v) (k : ℕ) (d : Test) → k < length c.words → after ≤ before + lists v.cuts * (2 * length (list_of space (get_or c.words k d)) + 4)
  by_each space shows k d l =
      chain_le after before (lists (map f (u ∷ words ++ ns))) (lists v.cuts) (length (whole_at tests (get_or words lead 0))) (length (list_of space (get_or c.words k d)))
      (omega (arith, is.moves (length (whole_at tests (get_or words lead 0))) refl, ap (λ m. m * (2 * length (whole_at tests (get_or words lead 0)) + 4)) (top_lists tests (u ∷ words ++ ns) cut_here single_here)))
      (omega (arith, used_lists f uses words against u split, ap lists same))
      (omega (arith, lead_size, least k (omega (arith, l, sized)), size_over f uses words against u split c v seen 0 0 0 seen_is same sized fits cut single space shows k d l))

  pub conjoined_steps : AreSearchSteps (Some c) v before after
  conjoined_steps = record {
    most = omega (
      arith,
      is.steps,
      top_lists tests (u ∷ words ++ ns) cut_here single_here,
      top_size tests (u ∷ words ++ ns) cut_here single_here,
      used_lists f uses words against u split,
      used_locations f uses words against u split,
      ap lists same,
      ap locations same,
    );
    rarest = λ space d shows found. let e : c ≡ d = cc in
        subst (λ (x : Conjunction). All (λ word. after ≤ before + lists v.cuts * (2 * length (list_of space word) + 4)) x.words) e (λ k t l. by_each space shows k t l);
  }
