-- A phrase by steps is a phrase by places.
use Rattle.std.proofs.Common.{rules, ◌≡◌, ℕ, zero, suc, ◌+◌, ◌≤◌, ◌<◌, List, [], ◌∷◌, ◌++◌, append-nil, length, drop, refl, ap, sym, subst, ◌∙◌, arith, Bool, true, false, inl, inr}
use Rattle.std.specs.Prelude.{◌||◌, ◌==◌, get_or, ◌⊎◌, IsTrue, ◌↔◌}
use Rattle.std.specs.List.{All}
use Rattle.std.proofs.lemmas.Bool.{false≢true, cases_lt, or_cases}
use Rattle.std.proofs.lemmas.Bool.Decides.{nat_tests}
use Rattle.std.proofs.lemmas.List.{drop_all}
use Rattle.std.proofs.lemmas.List.Elements.{All-nil, All-cons, All-head, All-tail}
use Rattle.alta_machine.specs.Patterns.{Bound, IsMet, AreMet, IsKept, Satisfies, meets, neighbours, phrase_pattern}
use Rattle.alta_model.specs.Phrase.{fits, has_phrase}
use Rattle.alta_machine.specs.declared.test.Test.{Test}
use Rattle.alta_model.proofs.Counts.{both}

-- the tests are met from this place on
abbrev pub StandsAt : List (List (List ℕ)) → List Test → ℕ → Type 0
StandsAt cells [] s = Unit {0}
StandsAt cells (test ∷ tests) s = IsMet cells test s × StandsAt cells tests (suc s)

drop_here : {X : Type 0} (xs : List X) (i : ℕ) (d : X) → i < length xs → drop i xs ≡ get_or xs i d ∷ drop (suc i) xs
drop_here [] i d h = absurd (omega arith)
drop_here (x ∷ xs) zero d h = refl
drop_here (x ∷ xs) (suc i) d h = drop_here xs i d (omega arith)

past_end : {X : Type 0} (x : X) (xs ys : List X) (i : ℕ) → drop i ys ≡ x ∷ xs → i < length ys
past_end x xs [] zero h = absurd (omega (arith, ap length h))
past_end x xs [] (suc i) h = absurd (omega (arith, ap length h))
past_end x xs (y ∷ ys) zero h = omega arith
past_end x xs (y ∷ ys) (suc i) h = let k = past_end x xs ys i h in omega (arith, k)

pub front_is : {X : Type 0} (x d : X) (xs ys : List X) (i : ℕ) → drop i ys ≡ x ∷ xs → (get_or ys i d ≡ x) × (drop (suc i) ys ≡ xs)
front_is x d xs ys i h =
    let k = sym (drop_here ys i d (past_end x xs ys i h)) ∙ h in
    (heads _ _ _ _ k, tails _ _ _ _ k)
  where
    heads : {X : Type 0} (x y : X) (xs ys : List X) → x ∷ xs ≡ y ∷ ys → x ≡ y
    heads x y xs ys h = ap (λ l. get_or l 0 x) h

    tails : {X : Type 0} (x y : X) (xs ys : List X) → x ∷ xs ≡ y ∷ ys → xs ≡ ys
    tails x y xs ys h = ap (λ l. drop 1 l) h

-- what the loops keep
pub fits_ended : (tests : List Test) (cells : List (List (List ℕ))) (i : ℕ) → i < length tests → length cells ≤ i → fits (drop i tests) (drop i cells) ≡ false
fits_ended tests cells i within past = ended (drop i cells) tests i (past_tests tests i within) (drop_all i cells past)
  where
    past_tests : (tests : List Test) (i : ℕ) → i < length tests → (t : Test) × (ts : List Test) × (drop i tests ≡ t ∷ ts)
    past_tests [] i h = absurd (omega arith)
    past_tests (t ∷ ts) zero h = (t, ts, refl)
    past_tests (t ∷ ts) (suc i) h = past_tests ts i (omega arith)

    ended : (cs : List (List (List ℕ))) (tests : List Test) (i : ℕ) → (t : Test) × (rest : List Test) × (drop i tests ≡ t ∷ rest) → cs ≡ [] → fits (drop i tests) cs ≡ false
    ended cs tests i k e = rw (k.2, e) refl

pub has_next : (tests : List Test) (cells : List (List (List ℕ))) (i : ℕ) → i < length cells → fits tests (drop i cells) ≡ false
    → has_phrase tests (drop i cells) ≡ has_phrase tests (drop (i + 1) cells)
has_next tests cells i within h =
    let e : i + 1 ≡ suc i = omega arith in
    let d = drop_here cells i [] within in
    rw (e, d) (rw (rw d at h) refl)

pub has_at_end : (tests : List Test) (cells : List (List (List ℕ))) (i : ℕ) → length cells ≤ i → has_phrase tests (drop i cells) ≡ (length tests == 0)
has_at_end [] cells i h = rw (drop_all i cells h) refl
has_at_end (t ∷ ts) cells i h = rw (drop_all i cells h) (no_test (length ts))
  where
    no_test : (n : ℕ) → false ≡ (suc n == 0)
    no_test n = grind (arith, nat_tests)

-- from steps to places
fits_by_end : (cells : List (List (List ℕ))) (test : Test) (tests : List Test) (s : ℕ) → (fits tests (drop (suc s) cells) ≡ true → StandsAt cells tests (suc s))
    → (s < length cells) ⊎ (length cells ≤ s) → fits (test ∷ tests) (drop s cells) ≡ true → StandsAt cells (test ∷ tests) s
fits_by_end cells test tests s more (inl within) h =
    let k = both (meets test (get_or cells s [])) (fits tests (drop (suc s) cells)) (rw (drop_here cells s [] within) at h) in
    ((within, k.0), more k.1)
fits_by_end cells test tests s more (inr past) h = absurd (false≢true (rw (drop_all s cells past) at h))

fits_stands : (cells : List (List (List ℕ))) (tests : List Test) (s : ℕ) → fits tests (drop s cells) ≡ true → StandsAt cells tests s
fits_stands cells [] s h = tt
fits_stands cells (test ∷ tests) s h = fits_by_end cells test tests s (fits_stands cells tests (suc s)) (cases_lt s (length cells)) h

pub has_stands : (cells : List (List (List ℕ))) (tests : List Test) (rest : List (List (List ℕ))) (s : ℕ) → drop s cells ≡ rest → has_phrase tests rest ≡ true → (r : ℕ) × StandsAt cells tests r
has_stands cells tests [] s e h = (s, fits_stands cells tests s (rw e h))
has_stands cells tests (c ∷ rest) s e h = here (or_cases (fits tests (c ∷ rest)) (has_phrase tests rest) h) (has_stands cells tests rest (suc s) (front_is c [] rest cells s e).1)
  where
    here : (fits tests (c ∷ rest) ≡ true) ⊎ (has_phrase tests rest ≡ true) → (has_phrase tests rest ≡ true → (r : ℕ) × StandsAt cells tests r) → (r : ℕ) × StandsAt cells tests r
    here (inl now) later = (s, fits_stands cells tests s (rw e now))
    here (inr more) later = later more

abbrev pub run : ℕ → List Test → List ℕ
run s [] = []
run s (test ∷ tests) = s ∷ run (suc s) tests

run_met : (cells : List (List (List ℕ))) (tests : List Test) (s : ℕ) → StandsAt cells tests s → AreMet cells tests (run s tests)
run_met cells [] s h = tt
run_met cells (test ∷ tests) s h = (h.0, run_met cells tests (suc s) h.1)

pub run_kept : (places : List ℕ) (tests : List Test) (tail : List ℕ) (i s : ℕ) → drop i places ≡ run s tests ++ tail → All (IsKept places) (neighbours i tests)
run_kept places [] tail i s e = All-nil (IsKept places)
run_kept places (test ∷ []) tail i s e = All-nil (IsKept places)
run_kept places (test ∷ (next ∷ tests)) tail i s e =
    let here = front_is s 0 (run (suc s) (next ∷ tests) ++ tail) places i e in
    let after = front_is (suc s) 0 (run (suc (suc s)) tests ++ tail) places (suc i) here.1 in
    let a : get_or places i 0 ≡ s = here.0 in
    let b : get_or places (suc i) 0 ≡ suc s = after.0 in
    let first : get_or places i 0 + 1 ≤ get_or places (suc i) 0 + 0 = omega arith in
    let second : get_or places (suc i) 0 + 0 ≤ get_or places i 0 + 1 = omega arith in
    let one : Bound = record { first = i; behind = 1; second = suc i; ahead = 0 } in
    let two : Bound = record { first = suc i; behind = 0; second = i; ahead = 1 } in
    All-cons (IsKept places) one (two ∷ neighbours (suc i) (next ∷ tests)) first
    (All-cons (IsKept places) two (neighbours (suc i) (next ∷ tests)) second (run_kept places (next ∷ tests) tail (suc i) (suc s) here.1))

pub phrase_found : (cells : List (List (List ℕ))) (tests : List Test) → has_phrase tests cells ≡ true → Satisfies cells (phrase_pattern tests)
phrase_found cells tests h =
    let k = has_stands cells tests cells 0 refl h in
    (run k.0 tests, record { met = run_met cells tests k.0 k.1; kept = run_kept (run k.0 tests) tests [] 0 k.0 (sym (append-nil (run k.0 tests))) })

-- from places to steps
pub stands_fits : (cells : List (List (List ℕ))) (tests : List Test) (s : ℕ) → StandsAt cells tests s → fits tests (drop s cells) ≡ true
stands_fits cells [] s h = refl
stands_fits cells (test ∷ tests) s h = rw (drop_here cells s [] h.0.0, h.0.1) (stands_fits cells tests (suc s) h.1)

fits_has : (tests : List Test) (cells : List (List (List ℕ))) → fits tests cells ≡ true → has_phrase tests cells ≡ true
fits_has tests [] h = h
fits_has tests (c ∷ cells) h = rw h refl

has_more : (tests : List Test) (cells : List (List (List ℕ))) (s : ℕ) → has_phrase tests (drop s cells) ≡ true → has_phrase tests cells ≡ true
has_more tests cells zero h = h
has_more tests [] (suc s) h = h
has_more tests (c ∷ cells) (suc s) h = or_true (fits tests (c ∷ cells)) (has_phrase tests cells) (has_more tests cells s h)
  where
    or_true : (a b : Bool) → b ≡ true → (a || b) ≡ true
    or_true true b h = refl
    or_true false b h = h

met_case : (cells : List (List (List ℕ))) (places : List ℕ) (tests : List Test) (i : ℕ) (rest : List ℕ) → drop i places ≡ rest → AreMet cells tests rest
    → All (IsKept places) (neighbours i tests) → StandsAt cells tests (get_or places i 0)
met_case cells places [] i rest e met kept = tt
met_case cells places (test ∷ tests) i [] e met kept = absurd met
met_case cells places (test ∷ []) i (p ∷ rest) e met kept = (subst (IsMet cells test) (sym (front_is p 0 rest places i e).0) met.0, tt)
met_case cells places (test ∷ (next ∷ tests)) i (p ∷ rest) e met kept =
    let here = front_is p 0 rest places i e in
    let one : Bound = record { first = i; behind = 1; second = suc i; ahead = 0 } in
    let two : Bound = record { first = suc i; behind = 0; second = i; ahead = 1 } in
    let first : get_or places i 0 + 1 ≤ get_or places (suc i) 0 + 0 = All-head (IsKept places) one (two ∷ neighbours (suc i) (next ∷ tests)) kept in
    let others = All-tail (IsKept places) one (two ∷ neighbours (suc i) (next ∷ tests)) kept in
    let second : get_or places (suc i) 0 + 0 ≤ get_or places i 0 + 1 = All-head (IsKept places) two (neighbours (suc i) (next ∷ tests)) others in
    let more = All-tail (IsKept places) two (neighbours (suc i) (next ∷ tests)) others in
    let next_place : get_or places (suc i) 0 ≡ suc (get_or places i 0) = omega arith in (
      subst (IsMet cells test) (sym here.0) met.0,
      subst (StandsAt cells (next ∷ tests)) next_place (met_case cells places (next ∷ tests) (suc i) rest here.1 met.1 more),
    )

pub phrase_has : (cells : List (List (List ℕ))) (tests : List Test) → Satisfies cells (phrase_pattern tests) → has_phrase tests cells ≡ true
phrase_has cells tests (places, answer) =
    let s = get_or places 0 0 in
    has_more tests cells s (fits_has tests (drop s cells) (stands_fits cells tests s (met_case cells places tests 0 places refl answer.met answer.kept)))

pub phrase_is : (cells : List (List (List ℕ))) (tests : List Test) (b : Bool) → b ≡ has_phrase tests cells → IsTrue b ↔ Satisfies cells (phrase_pattern tests)
phrase_is cells tests b e = (λ t. phrase_found cells tests (sym e ∙ from_true b t), λ h. to_true b (e ∙ phrase_has cells tests h))
  where
    from_true : (b : Bool) → IsTrue b → b ≡ true
    from_true b t = search (rules, t)

    to_true : (b : Bool) → b ≡ true → IsTrue b
    to_true b h = search (rules, h)

pub has_here : (tests : List Test) (cells : List (List (List ℕ))) (i : ℕ) → fits tests (drop i cells) ≡ true → has_phrase tests cells ≡ true
has_here tests cells i h = has_more tests cells i (fits_has tests (drop i cells) h)

pub stands_has : (cells : List (List (List ℕ))) (tests : List Test) (s : ℕ) → StandsAt cells tests s → has_phrase tests cells ≡ true
stands_has cells tests s h = has_here tests cells s (stands_fits cells tests s h)
