-- Cells that meet each test of a query at the same places match it alike.
use Rattle.std.proofs.Common.{◌≡◌, ℕ, List, [], ◌∷◌, ◌++◌, length, get_or, map, Bool, Option, Some, None, refl, ap, ◌∙◌}
use Rattle.std.specs.Prelude.{◌&&◌, ◌||◌, not}
use Rattle.std.specs.List.{All, list_any, range_with_len}
use Rattle.std.proofs.lemmas.List.Elements.{All-nil, All-cons, All-head, All-tail}
use Rattle.alta_machine.specs.Deciding.{is_answered, is_satisfied, is_value_match, is_match, all_match, any_matches}
use Rattle.alta_machine.specs.Patterns.{Bound, Pattern, meets, numbers_in, pattern_of, range_pattern, range_test}
use Rattle.alta_machine.specs.Shape.{Shape, Shapes, atom, all, any, negated, none, more}
use Rattle.alta_machine.specs.declared.test.Test.{Test}
use Rattle.alta_machine.specs.Covers.{cover_of}
use Rattle.alta_machine.specs.declared.range.Range.{Range}
use Rattle.alta_dump.specs.Asked.{HasTests, HaveTests, tests_among}

-- the test is met at the same places of both
abbrev pub MeetsAlike : List (List (List ℕ)) → List (List (List ℕ)) → Test → Type 0
MeetsAlike xs ys test = (place : ℕ) → meets test (get_or xs place []) ≡ meets test (get_or ys place [])

any_same : (f g : ℕ → Bool) → ((n : ℕ) → f n ≡ g n) → (ns : List ℕ) → list_any f ns ≡ list_any g ns
any_same f g same [] = refl
any_same f g same (n ∷ ns) = λ i. same n i || any_same f g same ns i

answered_same : (xs ys : List (List (List ℕ))) → length xs ≡ length ys → (bounds : List Bound) (places : List ℕ) (tests : List Test) → All (MeetsAlike xs ys) tests
    → is_answered xs bounds places tests ≡ is_answered ys bounds places tests
answered_same xs ys long bounds places [] alike = refl
answered_same xs ys long bounds places (test ∷ tests) alike =
    any_same (λ place. meets test (get_or xs place []) && is_answered xs bounds (places ++ place ∷ []) tests)
    (λ place. meets test (get_or ys place []) && is_answered ys bounds (places ++ place ∷ []) tests)
    (λ place. λ i. All-head (MeetsAlike xs ys) test tests alike place i && answered_same xs ys long bounds (places ++ place ∷ []) tests (All-tail (MeetsAlike xs ys) test tests alike) i)
    (range_with_len 0 (length xs))
    ∙ ap (λ n. list_any (λ place. meets test (get_or ys place []) && is_answered ys bounds (places ++ place ∷ []) tests) (range_with_len 0 n)) long

ranges_same : (xs ys : List (List (List ℕ))) → length xs ≡ length ys → (ranges : List Range) → All (MeetsAlike xs ys) (map range_test ranges)
    → list_any (is_satisfied xs) (map range_pattern ranges) ≡ list_any (is_satisfied ys) (map range_pattern ranges)
ranges_same xs ys long [] alike = refl
ranges_same xs ys long (range ∷ ranges) alike =
    let Alike : Test → Type 0 = MeetsAlike xs ys in
    let first : is_satisfied xs (range_pattern range) ≡ is_satisfied ys (range_pattern range) =
    answered_same xs ys long [] [] (range_test range ∷ []) (All-cons Alike (range_test range) [] (All-head Alike (range_test range) (map range_test ranges) alike) (All-nil Alike)) in
    let rest = ranges_same xs ys long ranges (All-tail Alike (range_test range) (map range_test ranges) alike) in
    λ i. first i || rest i

value_same : (xs ys : List (List (List ℕ))) → length xs ≡ length ys → (pattern : Pattern) (numbers : Option (ℕ × ℕ)) → All (MeetsAlike xs ys) (tests_among pattern.tests numbers)
    → is_value_match xs pattern numbers ≡ is_value_match ys pattern numbers
value_same xs ys long pattern None alike = answered_same xs ys long pattern.bounds [] pattern.tests alike
value_same xs ys long pattern (Some numbers) alike = ranges_same xs ys long (cover_of numbers.0 numbers.1) alike

mutual
  pub match_same : (xs ys : List (List (List ℕ))) → length xs ≡ length ys → (q : Shape) → HasTests (MeetsAlike xs ys) q → is_match xs q ≡ is_match ys q
  match_same xs ys long (atom a) alike = value_same xs ys long (pattern_of a) (numbers_in a) alike
  match_same xs ys long (all qs) alike = all_same xs ys long qs alike
  match_same xs ys long (any qs) alike = some_same xs ys long qs alike
  match_same xs ys long (negated q) alike = ap not (match_same xs ys long q alike)

  all_same : (xs ys : List (List (List ℕ))) → length xs ≡ length ys → (qs : Shapes) → HaveTests (MeetsAlike xs ys) qs → all_match xs qs ≡ all_match ys qs
  all_same xs ys long none alike = refl
  all_same xs ys long (more q qs) alike = λ i. match_same xs ys long q alike.0 i && all_same xs ys long qs alike.1 i

  some_same : (xs ys : List (List (List ℕ))) → length xs ≡ length ys → (qs : Shapes) → HaveTests (MeetsAlike xs ys) qs → any_matches xs qs ≡ any_matches ys qs
  some_same xs ys long none alike = refl
  some_same xs ys long (more q qs) alike = λ i. match_same xs ys long q alike.0 i || some_same xs ys long qs alike.1 i

both_tests : (P Q R : Test → Type 0) → ((t : Test) → P t → Q t → R t) → (ts : List Test) → All P ts → All Q ts → All R ts
both_tests P Q R from [] p q = All-nil R
both_tests P Q R from (t ∷ ts) p q = All-cons R t ts (from t (All-head P t ts p) (All-head Q t ts q)) (both_tests P Q R from ts (All-tail P t ts p) (All-tail Q t ts q))

-- what follows for each test from two facts on it
mutual
  pub both_have : (P Q R : Test → Type 0) → ((t : Test) → P t → Q t → R t) → (q : Shape) → HasTests P q → HasTests Q q → HasTests R q
  both_have P Q R from (atom a) p q = both_tests P Q R from (tests_among (pattern_of a).tests (numbers_in a)) p q
  both_have P Q R from (all qs) p q = each_has P Q R from qs p q
  both_have P Q R from (any qs) p q = each_has P Q R from qs p q
  both_have P Q R from (negated s) p q = both_have P Q R from s p q

  each_has : (P Q R : Test → Type 0) → ((t : Test) → P t → Q t → R t) → (qs : Shapes) → HaveTests P qs → HaveTests Q qs → HaveTests R qs
  each_has P Q R from none p q = tt
  each_has P Q R from (more s qs) p q = (both_have P Q R from s p.0 q.0, each_has P Q R from qs p.1 q.1)
