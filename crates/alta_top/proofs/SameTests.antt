-- The equality of tests, and the lists of a test among uses.
use Rattle.std.proofs.Common.{◌≡◌, ℕ, zero, suc, ◌+◌, ◌<◌, ◌≤◌, Bool, true, false, List, [], ◌∷◌, map, drop, length, get_or, refl, sym, subst, ap, ◌∙◌, arith}
use Rattle.std.specs.Prelude.{◌↔◌, if◌then◌else◌}
use Rattle.std.specs.Cmp.Lexicographic.{bytes_decides}
use Rattle.std.proofs.lemmas.Bool.{true≢false}
use Rattle.std.proofs.lemmas.List.{drop_all}
use Rattle.alta_content.proofs.Order.{iff_same}
use Rattle.alta_machine.specs.declared.test.Test.{Test}
use Rattle.alta_machine.specs.declared.test.Test.TheVariants.{Is, Begins}
use Rattle.alta_search.specs.Lists.{lists_at, test_at}
use Rattle.alta_search.specs.Tops.{same_test}
use Rattle.alta_top.specs.Best.{lists_for}
use Rattle.alta_search.specs.declared.lists.TestLists.{TestLists}

pub same_is : (t u : Test) → same_test t u ≡ true → t ≡ u
same_is (Is a) (Is b) h = ap Is ((bytes_decides a b).0 h)
same_is (Is a) (Begins b) h = absurd (true≢false (sym h))
same_is (Begins a) (Is b) h = absurd (true≢false (sym h))
same_is (Begins a) (Begins b) h = ap Begins ((bytes_decides a b).0 h)

pub same_itself : (t : Test) → same_test t t ≡ true
same_itself (Is a) = (bytes_decides a a).1 refl
same_itself (Begins a) = (bytes_decides a a).1 refl

pub by_test : (b : Bool) (t u : Test) → (b ≡ true) ↔ (t ≡ u) → b ≡ same_test t u
by_test b t u is =
    iff_same b (same_test t u) (λ h. subst (λ x. same_test t x ≡ true) (is.0 h) (same_itself t)) (λ h. is.1 (same_is t u h))

-- the lists of a test among those of these uses
abbrev pub lists_among : List TestLists → Test → List ℕ → List (List (List ℕ))
lists_among tests t used = lists_for t (map (test_at tests) used) (map (lists_at tests) used)

drop_more : (xs : List ℕ) (i : ℕ) → i < length xs → drop i xs ≡ get_or xs i 0 ∷ drop (i + 1) xs
drop_more [] i l = absurd (omega (arith, l))
drop_more (x ∷ xs) zero l = refl
drop_more (x ∷ xs) (suc i) l = let e : suc i + 1 ≡ suc (i + 1) = omega arith in drop_more xs i (omega (arith, l)) ∙ ap (λ n. get_or xs i 0 ∷ drop n (x ∷ xs)) (sym e)

abbrev one_among : List TestLists → Test → ℕ → List ℕ → Bool → List (List (List ℕ))
one_among tests t x xs b = if b then lists_at tests x else lists_among tests t xs

-- at the first use of the test
pub among_here : (tests : List TestLists) (t : Test) (used : List ℕ) (i : ℕ) → i < length used → same_test t (test_at tests (get_or used i 0)) ≡ true
    → lists_among tests t (drop i used) ≡ lists_among tests t used → lists_at tests (get_or used i 0) ≡ lists_among tests t used
among_here tests t used i l same rest =
    sym (ap (one_among tests t (get_or used i 0) (drop (i + 1) used)) same) ∙ ap (lists_among tests t) (sym (drop_more used i l)) ∙ rest

-- past a use of another
pub among_behind : (tests : List TestLists) (t : Test) (used : List ℕ) (i : ℕ) → i < length used → same_test t (test_at tests (get_or used i 0)) ≡ false
    → lists_among tests t (drop i used) ≡ lists_among tests t used → lists_among tests t (drop (i + 1) used) ≡ lists_among tests t used
among_behind tests t used i l other rest =
    sym (ap (one_among tests t (get_or used i 0) (drop (i + 1) used)) other) ∙ ap (lists_among tests t) (sym (drop_more used i l)) ∙ rest

past_all : (tests : List TestLists) → lists_at tests (length tests) ≡ []
past_all [] = refl
past_all (t ∷ ts) = past_all ts

-- past all uses
pub among_none : (tests : List TestLists) (t : Test) (used : List ℕ) (i : ℕ) → length used ≤ i
    → lists_among tests t (drop i used) ≡ lists_among tests t used → lists_at tests (length tests) ≡ lists_among tests t used
among_none tests t used i l rest = past_all tests ∙ sym (ap (lists_among tests t) (drop_all i used l)) ∙ rest
