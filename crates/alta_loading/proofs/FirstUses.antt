-- The order of loading has each test once, in the order of first uses.
use Rattle.std.proofs.Common.{◌≡◌, ◌≢◌, ⊎_elim, ℕ, suc, ◌+◌, ◌<◌, ◌≤◌, max, Bool, true, false, cond, ◌||◌, List, [], ◌∷◌, length, map, take, drop, get_or, refl, sym, ap, subst, ◌∙◌, arith}
use Rattle.std.specs.Prelude.{All, AllPairs}
use Rattle.std.specs.List.{list_any}
use Rattle.std.proofs.lemmas.Bool.{cases_Bool, cases_lt, true≢false}
use Rattle.std.proofs.lemmas.List.{drop_all, get_or-take, get_or_default, length-take}
use Rattle.std.proofs.lemmas.List.Elements.{All-head, All-tail}
use Rattle.std.proofs.lemmas.List.Folds.{list_any_at, list_any_more, list_any_none}
use Rattle.std.proofs.Math.Seq.{drop-cons}
use Rattle.alta_compile.specs.Space.{document_end}
use Rattle.alta_content.proofs.Order.{itself, same_term}
use Rattle.alta_loading.specs.Met.{each_once, first_uses}
use Rattle.alta_machine.specs.declared.test.Test.{Test}
use Rattle.alta_machine.specs.declared.test.Test.TheVariants.{Is, Begins}
use Rattle.alta_search.specs.Order.{ComeInOrder, IsOrder, Order, used}
use Rattle.alta_search.specs.Tops.{same_test}

same_true : (a b : Test) → same_test a b ≡ true → a ≡ b
same_true (Is t) (Is u) e = ap Is (same_term t u e)
same_true (Is t) (Begins u) e = absurd (true≢false (sym e))
same_true (Begins t) (Is u) e = absurd (true≢false (sym e))
same_true (Begins t) (Begins u) e = ap Begins (same_term t u e)

same_itself : (a : Test) → same_test a a ≡ true
same_itself (Is t) = itself t
same_itself (Begins t) = itself t

abbrev is_one : Test → List Test → Bool
is_one t ts = list_any (same_test t) ts

-- the tests at these indexes
abbrev at_uses : List Test → List ℕ → List Test
at_uses tests uses = map (λ i. get_or tests i document_end) uses

-- no test from an index on stands before it
none_earlier : (tests : List Test) (i : ℕ) → AllPairs (λ a b. a ≢ b) tests → i < length tests → is_one (get_or tests i document_end) (take i tests) ≡ false
none_earlier tests i once l =
    let t = get_or tests i document_end in
    list_any_none (same_test t) (take i tests)
    (λ k d m.
    let under : k < i = omega (arith, m, length-take i tests) in
    let here : get_or (take i tests) k d ≡ get_or tests k d = get_or-take i tests k d under in
    let there : get_or tests i d ≡ t = get_or_default tests i d document_end l in
    ⊎_elim
    (λ y. absurd (once k i d under l (sym here ∙ sym (same_true t (get_or (take i tests) k d) y) ∙ sym there)))
    (λ n. n)
    (cases_Bool (same_test t (get_or (take i tests) k d))))

-- one that was used before stands before the next
earlier : (tests : List Test) (next i : ℕ) → i < next → next ≤ length tests → is_one (get_or tests i document_end) (take next tests) ≡ true
earlier tests next i l w =
    let t = get_or tests i document_end in
    list_any_at (same_test t) (take next tests) i document_end (omega (arith, l, w, length-take next tests))
    (subst (λ u. same_test t u ≡ true) (sym (get_or-take next tests i document_end l)) (same_itself t))

module _ (tests : List Test) (once : AllPairs (λ a b. a ≢ b) tests) where
  uses_from : (uses : List ℕ) (next : ℕ) (before : List Test) → All (λ i. i < length tests) uses → ComeInOrder next uses (length tests) → next ≤ length tests
      → ((t : Test) → is_one t before ≡ is_one t (take next tests)) → drop next tests ≡ first_uses before (at_uses tests uses)
  uses_from [] next before inside come w same = drop_all next tests (omega (arith, come))
  uses_from (i ∷ is) next before inside (le, come) w same =
      let t = get_or tests i document_end in
      let l : i < length tests = All-head (λ (j : ℕ). j < length tests) i is inside in
      let rest = All-tail (λ (j : ℕ). j < length tests) i is inside in
      let more : List Test = t ∷ first_uses (t ∷ before) (at_uses tests is) in
      ⊎_elim
      (λ under.
      let stays : max next (i + 1) ≡ next = omega (arith, under) in
      uses_from is next before rest (subst (λ (n : ℕ). ComeInOrder n is (length tests)) stays come) w same
      ∙ sym (ap (λ b. cond b (first_uses before (at_uses tests is)) more) (same t ∙ earlier tests next i under w)))
      (λ over.
      let here : next ≡ i = omega (arith, over, le) in
      let goes : max next (i + 1) ≡ suc i = omega (arith, here) in
      let after : i + 1 ≡ suc i = omega arith in
      let step : (u : Test) → is_one u (t ∷ before) ≡ is_one u (take (suc i) tests) =
      λ u. ap (λ b. same_test u t || b) (same u ∙ ap (λ (n : ℕ). is_one u (take n tests)) here) ∙ turned (same_test u t) (is_one u (take i tests))
      ∙ sym (list_any_more (same_test u) tests i document_end l) ∙ ap (λ (n : ℕ). is_one u (take n tests)) after in
      ap (λ (n : ℕ). drop n tests) here ∙ drop-cons tests i document_end l
      ∙ ap (λ ts. t ∷ ts) (uses_from is (suc i) (t ∷ before) rest (subst (λ (n : ℕ). ComeInOrder n is (length tests)) goes come) (omega (arith, l)) step)
      ∙ sym (ap (λ b. cond b (first_uses before (at_uses tests is)) more) (same t ∙ ap (λ (n : ℕ). is_one t (take n tests)) here ∙ none_earlier tests i once l)))
      (cases_lt i next)
    where
      turned : (a b : Bool) → (a || b) ≡ (b || a)
      turned true true = refl
      turned true false = refl
      turned false true = refl
      turned false false = refl

-- the tests of an order of loading are those that are used, each once
pub once_used : (order : Order) (all : List Test) → IsOrder order → used order ≡ all → order.tests ≡ each_once all
once_used order all is same = uses_from order.tests is.once order.uses 0 [] is.inside is.first (omega arith) (λ t. refl) ∙ ap each_once same
