-- Uses of tests, one more at a time.
use Rattle.std.proofs.Common.{◌≡◌, ◌≢◌, ℕ, ◌+◌, ◌<◌, ◌≤◌, max, List, [], ◌∷◌, ◌++◌, map, length, get_or, refl, sym, subst, ap, ◌∙◌, arith}
use Rattle.std.specs.Prelude.{All, Contains}
use Rattle.std.proofs.lemmas.List.{map_push, length-append, get_or_append_left, get_or_push, get_or_default}
use Rattle.std.proofs.lemmas.List.Elements.{All-push, All-cons, All-nil, All-head, All-tail}
use Rattle.std.proofs.lemmas.List.Quantifiers.{all_pairs_push}
use Rattle.alta_compile.specs.Space.{document_end}
use Rattle.alta_machine.specs.declared.test.Test.{Test}
use Rattle.alta_search.specs.Order.{Order, used, ComeInOrder, IsOrder}

come_push : (next : ℕ) (uses : List ℕ) (last i : ℕ) → ComeInOrder next uses last → i ≤ last → ComeInOrder next (uses ++ i ∷ []) (max last (i + 1))
come_push next [] last i e l = (omega (arith, e, l), ap (λ n. max n (i + 1)) e)
come_push next (u ∷ us) last i (a, r) l = (a, come_push (max next (u + 1)) us last i r l)

-- the tests that are there stay where they are
same_uses : (tests : List Test) (t : Test) (uses : List ℕ) → All (λ i. i < length tests) uses
    → map (λ i. get_or (tests ++ t ∷ []) i document_end) uses ≡ map (λ i. get_or tests i document_end) uses
same_uses tests t [] h = refl
same_uses tests t (u ∷ us) h =
    ap (λ x. x ∷ map (λ i. get_or (tests ++ t ∷ []) i document_end) us) (get_or_append_left tests (t ∷ []) document_end u (All-head (λ i. i < length tests) u us h))
    ∙ ap (λ xs. get_or tests u document_end ∷ xs) (same_uses tests t us (All-tail (λ i. i < length tests) u us h))

wider : (n m : ℕ) (uses : List ℕ) → n ≤ m → All (λ i. i < n) uses → All (λ i. i < m) uses
wider n m [] l h = All-nil (λ i. i < m)
wider n m (u ∷ us) l h = let first = All-head (λ i. i < n) u us h in All-cons (λ i. i < m) u us (omega (arith, first, l)) (wider n m us l (All-tail (λ i. i < n) u us h))

module _ (o : Order) (h : IsOrder o) (tests seen : List Test) (uses : List ℕ) (same : tests ≡ o.tests) (held : uses ≡ o.uses) (look : seen ≡ tests) where
  -- one more use of a test that is there
  pub order_again : (i : ℕ) (more : List ℕ) → i < length seen → more ≡ uses ++ i ∷ [] → IsOrder (record { tests = tests; uses = more })
  order_again i more l pushed =
      let inside : i < length o.tests = omega (arith, l, ap length look, ap length same) in
      let last : max (length o.tests) (i + 1) ≡ length o.tests = omega (arith, inside) in
      let made : IsOrder (record { tests = o.tests; uses = o.uses ++ i ∷ [] }) =
      record {
        once = h.once;
        inside = All-push (λ i. i < length o.tests) o.uses i h.inside inside;
        first = subst (ComeInOrder 0 (o.uses ++ i ∷ [])) last (come_push 0 o.uses (length o.tests) i h.first (omega (arith, inside)));
      } in
      let uses_are : more ≡ o.uses ++ i ∷ [] = pushed ∙ ap (λ us. us ++ i ∷ []) held in
      subst (λ ts. IsOrder (record { tests = ts; uses = more })) (sym same) (subst (λ us. IsOrder (record { tests = o.tests; uses = us })) (sym uses_are) made)

  -- the first use of a test
  module _ (t copy : Test) (n : ℕ) (ts : List Test) (more : List ℕ) (equal : copy ≡ t) (none : Contains seen t → ⊥) (size : n ≡ length tests)
      (added : ts ≡ tests ++ copy ∷ []) (pushed : more ≡ uses ++ n ∷ []) where
    tests_are : ts ≡ o.tests ++ t ∷ []
    tests_are = added ∙ ap (λ xs. xs ++ copy ∷ []) same ∙ ap (λ x. o.tests ++ x ∷ []) equal

    uses_are : more ≡ o.uses ++ length o.tests ∷ []
    uses_are = pushed ∙ ap (λ us. us ++ n ∷ []) held ∙ ap (λ k. o.uses ++ k ∷ []) (size ∙ ap length same)

    grown : length (o.tests ++ t ∷ []) ≡ length o.tests + 1
    grown = omega (arith, length-append o.tests (t ∷ []))

    made : IsOrder (record { tests = o.tests ++ t ∷ []; uses = o.uses ++ length o.tests ∷ [] })
    made =
        let last : max (length o.tests) (length o.tests + 1) ≡ length (o.tests ++ t ∷ []) = omega (arith, grown) in
        record {
          once = all_pairs_push (λ a b. a ≢ b) o.tests t h.once
              (λ k d l equal. none (subst (λ xs. Contains xs t) (sym (look ∙ same)) (k, l, get_or_default o.tests k t d l ∙ equal)));
          inside = All-push (λ i. i < length (o.tests ++ t ∷ [])) o.uses (length o.tests)
              (wider (length o.tests) (length (o.tests ++ t ∷ [])) o.uses (omega (arith, grown)) h.inside) (omega (arith, grown));
          first = subst (ComeInOrder 0 (o.uses ++ length o.tests ∷ [])) last (come_push 0 o.uses (length o.tests) (length o.tests) h.first (omega arith));
        }

    pub order_new : IsOrder (record { tests = ts; uses = more })
    order_new = subst (λ xs. IsOrder (record { tests = xs; uses = more })) (sym tests_are) (subst (λ us. IsOrder (record { tests = o.tests ++ t ∷ []; uses = us })) (sym uses_are) made)

    pub used_new : used (record { tests = ts; uses = more }) ≡ used o ++ t ∷ []
    used_new =
        ap (λ xs. used (record { tests = xs; uses = more })) tests_are
        ∙ ap (λ us. used (record { tests = o.tests ++ t ∷ []; uses = us })) uses_are
        ∙ map_push (λ i. get_or (o.tests ++ t ∷ []) i document_end) o.uses (length o.tests)
        ∙ ap (λ x. map (λ i. get_or (o.tests ++ t ∷ []) i document_end) o.uses ++ x ∷ []) (get_or_push o.tests t document_end (length o.tests) refl)
        ∙ ap (λ xs. xs ++ t ∷ []) (same_uses o.tests t o.uses h.inside)
