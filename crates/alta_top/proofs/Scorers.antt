-- A scorer over the lists of a query's uses.
use Rattle.std.proofs.Common.{◌≡◌, ⊎_elim, ℕ, ◌+◌, ◌-◌, ◌<◌, List, [], ◌∷◌, map, length, get_or, refl, sym, subst, ap, ◌∙◌, arith, zero, suc}
use Rattle.std.specs.Prelude.{All, if◌then◌else◌}
use Rattle.std.specs.List.{concat}
use Rattle.std.proofs.lemmas.List.{length-map}
use Rattle.std.proofs.lemmas.List.Elements.{All-nil, All-cons, All-head, All-tail}
use Rattle.alta_codec.specs.Rising.{IsRising}
use Rattle.alta_docread.specs.KeptLaws.{true_or_false}
use Rattle.alta_machine.specs.declared.test.Test.{Test}
use Rattle.alta_machine.specs.declared.usage.Use.{Use}
use Rattle.alta_search.specs.Lists.{IsCut, count_lists, lists_at, test_at}
use Rattle.alta_search.specs.Plans.{lists}
use Rattle.alta_search.specs.Readers.{Each, IsFresh}
use Rattle.alta_top.specs.Scoring.{IsScorerOf, last_lists}
use Rattle.alta_search.specs.Tops.{same_test}
use Rattle.alta_top.specs.Best.{lists_for, scoring_lists}
use Rattle.alta_search.specs.View.{View}
use Rattle.alta_search.specs.Words.{reader_list, reader_all, reader_place, reader_left}
use Rattle.alta_search.specs.declared.lists.TestLists.{TestLists}
use Rattle.alta_search.specs.declared.test_reader.TestReader.{TestReader}
use Rattle.alta_search.proofs.Planting.{fresh_left, fresh_lists}
use Rattle.alta_top.proofs.SameTests.{lists_among}

no_cut : IsCut []
no_cut = All-nil (λ (levels : List (List ℕ)). All (λ (list : List ℕ). 0 < length list) levels × IsRising (concat levels))

for_cut : (t : Test) (ts : List Test) (cuts : List (List (List (List ℕ)))) → All IsCut cuts → IsCut (lists_for t ts cuts)
for_cut t [] cuts h = no_cut
for_cut t (u ∷ us) [] h = no_cut
for_cut t (u ∷ us) (c ∷ cs) h =
    ⊎_elim
    (λ same. subst IsCut (sym (ap (λ b. if b then c else lists_for t us cs) same)) (All-head IsCut c cs h))
    (λ other. subst IsCut (sym (ap (λ b. if b then c else lists_for t us cs) other)) (for_cut t us cs (All-tail IsCut c cs h)))
    (true_or_false (same_test t u))

pub scoring_cut : (uses : List Use) (v : View) → All IsCut v.cuts → All IsCut (scoring_lists uses v)
scoring_cut [] v h = All-nil IsCut
scoring_cut (u ∷ us) v h = All-cons IsCut (lists_for u.test v.tests v.cuts) (scoring_lists us v) (for_cut u.test v.tests v.cuts h) (scoring_cut us v h)

pub scoring_size : (uses : List Use) (v : View) → length (scoring_lists uses v) ≡ length uses
scoring_size uses v = length-map uses (λ (u : Use). lists_for u.test v.tests v.cuts)

-- the lists of the uses, by the indexes of their tests
abbrev among_each : List TestLists → List ℕ → List Use → List (List (List (List ℕ)))
among_each tests used uses = map (λ (u : Use). lists_among tests u.test used) uses

pub uses_cuts : (tests : List TestLists) (used : List ℕ) (v : View) (uses : List Use) → map (test_at tests) used ≡ v.tests → map (lists_at tests) used ≡ v.cuts
    → among_each tests used uses ≡ scoring_lists uses v
uses_cuts tests used v uses tests_are cuts_are =
    ap (λ (ts : List Test). map (λ (u : Use). lists_for u.test ts (map (lists_at tests) used)) uses) tests_are
    ∙ ap (λ (cs : List (List (List (List ℕ)))). map (λ (u : Use). lists_for u.test v.tests cs) uses) cuts_are

-- the last of the lists
last_map : (f : ℕ → List (List (List ℕ))) (xs : List ℕ) (n : ℕ) → n + 1 ≡ length xs → get_or (map f xs) n [] ≡ f (get_or xs n 0)
last_map f [] n e = absurd (omega (arith, e))
last_map f (x ∷ []) zero e = refl
last_map f (x ∷ y ∷ ys) zero e = absurd (omega (arith, e))
last_map f (x ∷ xs) (suc n) e = last_map f xs n (omega (arith, e))

pub last_is : (tests : List TestLists) (used : List ℕ) (v : View) → map (lists_at tests) used ≡ v.cuts → 0 < length used
    → lists_at tests (get_or used (length used - 1) 0) ≡ last_lists v
last_is tests used v cuts_are some =
    let size : length v.cuts - 1 ≡ length used - 1 = omega (arith, ap length cuts_are, length-map used (lists_at tests)) in
    sym (last_map (lists_at tests) used (length used - 1) (omega (arith, some)))
    ∙ ap (λ cs. get_or cs (length used - 1) []) cuts_are ∙ ap (λ k. get_or v.cuts k []) (sym size)

-- the scorer
pub scorer_is : (uses : List Use) (v : View) (readers : List TestReader) (titles : TestReader) (before made after : ℕ)
    → Each (IsFresh reader_list reader_all reader_place reader_left) (scoring_lists uses v) readers → IsFresh reader_list reader_all reader_place reader_left (last_lists v) titles
    → made ≡ before + lists (scoring_lists uses v) → after ≡ made + count_lists (last_lists v)
    → IsScorerOf uses v (record { readers = readers; uses = uses; titles = titles; asked = 0 }) before after
scorer_is uses v readers titles before made after each fresh first second = record {
  uses = refl;
  reads = fresh_lists reader_list reader_all reader_place reader_left (scoring_lists uses v) readers each;
  titles = fresh.reads;
  unasked = refl;
  steps = omega (arith, first, second, fresh.rest, fresh_left reader_list reader_all reader_place reader_left (scoring_lists uses v) readers each);
}
