-- A phrase inside a title is a phrase in the cells before the last title end.
use Rattle.std.proofs.Common.{rules, ◌≡◌, ℕ, zero, suc, ◌+◌, ◌≤◌, ◌<◌, List, [], ◌∷◌, ◌++◌, length, take, drop, refl, ap, sym, subst, ◌∙◌, arith, Bool, true, inl, inr}
use Rattle.std.specs.Prelude.{get_or, ◌⊎◌, IsTrue, ◌↔◌, Option, Some, None}
use Rattle.std.specs.List.{All}
use Rattle.std.proofs.lemmas.Bool.{cases_lt}
use Rattle.std.proofs.lemmas.List.Elements.{All-nil, All-cons, All-head, All-tail, All-append}
use Rattle.alta_model.specs.Near.{IsLast}
use Rattle.alta_machine.specs.Patterns.{Bound, IsMet, AreMet, IsKept, Satisfies, meets, neighbours, phrase_pattern, title_end, before_end, in_title}
use Rattle.alta_model.specs.Phrase.{has_phrase}
use Rattle.alta_machine.specs.declared.test.Test.{Test}
use Rattle.alta_model.proofs.Phrases.{StandsAt, run, run_kept, front_is, has_stands, stands_has}

-- cells before a place
get_before : (cells : List (List (List ℕ))) (n p : ℕ) → p < n → get_or (take n cells) p [] ≡ get_or cells p []
get_before [] zero p h = refl
get_before [] (suc n) p h = refl
get_before (c ∷ cells) zero p h = absurd (omega arith)
get_before (c ∷ cells) (suc n) zero h = refl
get_before (c ∷ cells) (suc n) (suc p) h = get_before cells n p (omega arith)

length_before : (cells : List (List (List ℕ))) (n p : ℕ) → (p < length (take n cells) → (p < n) × (p < length cells)) × (p < n → p < length cells → p < length (take n cells))
length_before [] zero p = (λ h. absurd (omega arith), λ h k. absurd (omega arith))
length_before [] (suc n) p = (λ h. absurd (omega arith), λ h k. absurd (omega arith))
length_before (c ∷ cells) zero p = (λ h. absurd (omega arith), λ h k. absurd (omega arith))
length_before (c ∷ cells) (suc n) zero = (λ h. (omega arith, omega arith), λ h k. omega arith)
length_before (c ∷ cells) (suc n) (suc p) =
    let k = length_before cells n p in
    (λ h. let x = k.0 (omega arith) in (omega (arith, x.0), omega (arith, x.1)), λ h l. let x = k.1 (omega arith) (omega arith) in omega (arith, x))

met_before : (cells : List (List (List ℕ))) (test : Test) (n p : ℕ) → IsMet (take n cells) test p → (p < n) × IsMet cells test p
met_before cells test n p h =
    let k = (length_before cells n p).0 h.0 in
    (k.0, (k.1, ap (meets test) (sym (get_before cells n p k.0)) ∙ h.1))

before_met : (cells : List (List (List ℕ))) (test : Test) (n p : ℕ) → p < n → IsMet cells test p → IsMet (take n cells) test p
before_met cells test n p low h = ((length_before cells n p).1 low h.0, ap (meets test) (get_before cells n p low) ∙ h.1)

stands_later : (cells : List (List (List ℕ))) (tests : List Test) (n m s : ℕ) → n ≤ m → StandsAt (take n cells) tests s → StandsAt (take m cells) tests s
stands_later cells [] n m s le h = tt
stands_later cells (test ∷ tests) n m s le h =
    let k = met_before cells test n s h.0 in
    let low : s < m = omega (arith, k.0) in
    (before_met cells test m s low k.1, stands_later cells tests n m (suc s) le h.1)

-- from places to the title
title_met : (cells : List (List (List ℕ))) (tests : List Test) (places : List ℕ) → AreMet cells (tests ++ title_end ∷ []) places → IsMet cells title_end (get_or places (length tests) 0)
title_met cells [] [] h = absurd h
title_met cells [] (p ∷ places) h = h.0
title_met cells (test ∷ tests) [] h = absurd h
title_met cells (test ∷ tests) (p ∷ places) h = title_met cells tests places h.1

stands_in_title : (cells : List (List (List ℕ))) (places : List ℕ) (tests : List Test) (t i : ℕ) (rest : List ℕ) → drop i places ≡ rest → AreMet cells (tests ++ title_end ∷ []) rest
    → All (IsKept places) (neighbours i tests) → ((j : ℕ) → i ≤ j → j < i + length tests → get_or places j 0 < t) → StandsAt (take t cells) tests (get_or places i 0)
stands_in_title cells places [] t i rest e met kept low = tt
stands_in_title cells places (test ∷ tests) t i [] e met kept low = absurd met
stands_in_title cells places (test ∷ []) t i (p ∷ rest) e met kept low =
    (before_met cells test t (get_or places i 0) (low i (omega arith) (omega arith)) (subst (IsMet cells test) (sym (front_is p 0 rest places i e).0) met.0), tt)
stands_in_title cells places (test ∷ (next ∷ tests)) t i (p ∷ rest) e met kept low =
    let here = front_is p 0 rest places i e in
    let one : Bound = record { first = i; behind = 1; second = suc i; ahead = 0 } in
    let two : Bound = record { first = suc i; behind = 0; second = i; ahead = 1 } in
    let first : get_or places i 0 + 1 ≤ get_or places (suc i) 0 + 0 = All-head (IsKept places) one (two ∷ neighbours (suc i) (next ∷ tests)) kept in
    let others = All-tail (IsKept places) one (two ∷ neighbours (suc i) (next ∷ tests)) kept in
    let second : get_or places (suc i) 0 + 0 ≤ get_or places i 0 + 1 = All-head (IsKept places) two (neighbours (suc i) (next ∷ tests)) others in
    let more = All-tail (IsKept places) two (neighbours (suc i) (next ∷ tests)) others in
    let next_place : get_or places (suc i) 0 ≡ suc (get_or places i 0) = omega arith in (
      before_met cells test t (get_or places i 0) (low i (omega arith) (omega arith)) (subst (IsMet cells test) (sym here.0) met.0),
      subst (StandsAt (take t cells) (next ∷ tests)) next_place
          (stands_in_title cells places (next ∷ tests) t (suc i) rest here.1 met.1 more (λ j a b. low j (omega arith) (omega arith))),
    )

all_front : (P : Bound → Type 0) (xs ys : List Bound) → All P (xs ++ ys) → All P xs
all_front P [] ys h = All-nil P
all_front P (x ∷ xs) ys h = All-cons P x xs (All-head P x (xs ++ ys) h) (all_front P xs ys (All-tail P x (xs ++ ys) h))

all_back : (P : Bound → Type 0) (xs ys : List Bound) → All P (xs ++ ys) → All P ys
all_back P [] ys h = h
all_back P (x ∷ xs) ys h = all_back P xs ys (All-tail P x (xs ++ ys) h)

end_bound : ℕ → ℕ → Bound
end_bound end i = record { first = i; behind = 1; second = end; ahead = 0 }

below_last : (places : List ℕ) (end count j : ℕ) → j < suc count → ((j : ℕ) → j < count → get_or places j 0 < get_or places end 0) → get_or places count 0 + 1 ≤ get_or places end 0 + 0
    → (j < count) ⊎ (count ≤ j) → get_or places j 0 < get_or places end 0
below_last places end count j low front last (inl below) = front j below
below_last places end count j low front last (inr above) = let e : j ≡ count = omega arith in rw e (omega (arith, last))

ends_below : (places : List ℕ) (end count : ℕ) → All (IsKept places) (before_end end count) → (j : ℕ) → j < count → get_or places j 0 < get_or places end 0
unfolding end_bound
ends_below places end zero h j low = absurd (omega arith)
ends_below places end (suc count) h j low =
    below_last places end count j low
    (ends_below places end count (all_front (IsKept places) (before_end end count) (end_bound end count ∷ []) h))
    (All-head (IsKept places) (end_bound end count) [] (all_back (IsKept places) (before_end end count) (end_bound end count ∷ []) h))
    (cases_lt j count)

below_ends : (places : List ℕ) (end count : ℕ) → ((j : ℕ) → j < count → get_or places j 0 < get_or places end 0) → All (IsKept places) (before_end end count)
unfolding end_bound
below_ends places end zero h = All-nil (IsKept places)
below_ends places end (suc count) h =
    let last : get_or places count 0 + 1 ≤ get_or places end 0 + 0 = let k = h count (omega arith) in omega (arith, k) in
    All-append (IsKept places) (before_end end count) (end_bound end count ∷ []) (below_ends places end count (λ j low. h j (omega arith)))
    (All-cons (IsKept places) (end_bound end count) [] last (All-nil (IsKept places)))

-- from the title to places
run_in_title : (cells : List (List (List ℕ))) (tests : List Test) (s t : ℕ) → StandsAt (take t cells) tests s → IsMet cells title_end t
    → AreMet cells (tests ++ title_end ∷ []) (run s tests ++ t ∷ [])
run_in_title cells [] s t h end = (end, tt)
run_in_title cells (test ∷ tests) s t h end = ((met_before cells test t s h.0).1, run_in_title cells tests (suc s) t h.1 end)

run_low : (cells : List (List (List ℕ))) (tests : List Test) (s t : ℕ) → StandsAt (take t cells) tests s → (j : ℕ) → j < length tests → get_or (run s tests ++ t ∷ []) j 0 < t
run_low cells [] s t h j low = absurd (omega arith)
run_low cells (test ∷ tests) s t h zero low = (met_before cells test t s h.0).0
run_low cells (test ∷ tests) s t h (suc j) low = run_low cells tests (suc s) t h.1 j (omega arith)

run_end : (tests : List Test) (s t : ℕ) → get_or (run s tests ++ t ∷ []) (length tests) 0 ≡ t
run_end [] s t = refl
run_end (test ∷ tests) s t = run_end tests (suc s) t

pub in_title_found : (cells : List (List (List ℕ))) (tests : List Test) (t : ℕ) → IsMet cells title_end t → has_phrase tests (take t cells) ≡ true → Satisfies cells (in_title (phrase_pattern tests))
in_title_found cells tests t end h =
    let k = has_stands (take t cells) tests (take t cells) 0 refl h in
    let places : List ℕ = run k.0 tests ++ t ∷ [] in (
      places,
      record {
        met = run_in_title cells tests k.0 t k.1 end;
        kept = All-append (IsKept places) (neighbours 0 tests) (before_end (length tests) (length tests)) (run_kept places tests (t ∷ []) 0 k.0 refl)
            (below_ends places (length tests) (length tests) (λ j low. rw (run_end tests k.0 t) (run_low cells tests k.0 t k.1 j low)));
      },
    )

pub in_title_has : (cells : List (List (List ℕ))) (tests : List Test) → Satisfies cells (in_title (phrase_pattern tests))
    → (t : ℕ) × IsMet cells title_end t × (s : ℕ) × StandsAt (take t cells) tests s
in_title_has cells tests (places, answer) =
    let t = get_or places (length tests) 0 in
    let near = all_front (IsKept places) (neighbours 0 tests) (before_end (length tests) (length tests)) answer.kept in
    let low = ends_below places (length tests) (length tests) (all_back (IsKept places) (neighbours 0 tests) (before_end (length tests) (length tests)) answer.kept) in (
      t,
      title_met cells tests places answer.met,
      get_or places 0 0,
      stands_in_title cells places tests t 0 places refl answer.met near (λ j a b. low j (omega arith)),
    )

pub no_title : (cells : List (List (List ℕ))) (tests : List Test) (o : Option ℕ) → o ≡ None → IsLast cells title_end (length cells) o → ¬ (Satisfies cells (in_title (phrase_pattern tests)))
no_title cells tests o e h answer =
    let k = in_title_has cells tests answer in
    subst (IsLast cells title_end (length cells)) e h k.0 k.1.0 k.1

last_is : (cells : List (List (List ℕ))) (t p : ℕ) → IsLast cells title_end (length cells) (Some t) → IsMet cells title_end p → (p ≤ t) ⊎ (t < p) → p ≤ t
last_is cells t p h met (inl le) = le
last_is cells t p h met (inr gt) = absurd (h.2 p gt met.0 met)

pub title_is : (cells : List (List (List ℕ))) (tests : List Test) (t : ℕ) (b : Bool) → IsLast cells title_end (length cells) (Some t) → b ≡ has_phrase tests (take t cells)
    → IsTrue b ↔ Satisfies cells (in_title (phrase_pattern tests))
title_is cells tests t b last e = (λ h. in_title_found cells tests t last.1 (sym e ∙ from_true b h), λ answer. to_true b (e ∙ has answer))
  where
    from_true : (b : Bool) → IsTrue b → b ≡ true
    from_true b t = search (rules, t)

    to_true : (b : Bool) → b ≡ true → IsTrue b
    to_true b h = search (rules, h)

    le_or : (p t : ℕ) → (t < p) ⊎ (p ≤ t) → (p ≤ t) ⊎ (t < p)
    le_or p t (inl x) = inr x
    le_or p t (inr x) = inl x

    has : Satisfies cells (in_title (phrase_pattern tests)) → has_phrase tests (take t cells) ≡ true
    has answer =
        let k = in_title_has cells tests answer in
        stands_has (take t cells) tests k.2 (stands_later cells tests k.0 t k.2 (last_is cells t k.0 last k.1 (le_or k.0 t (cases_lt t k.0))) k.3)
