-- The rows of a level whose terms begin so, one after the other.
use Rattle.std.proofs.Common.{◌≡◌, ℕ, zero, suc, ◌+◌, ◌<◌, ◌≤◌, ◌||◌, Bool, true, false, List, [], ◌∷◌, ◌++◌, take, refl, sym, ap, ◌∙◌, arith}
use Rattle.std.specs.Prelude.{Some, slice_get}
use Rattle.std.specs.List.{filter}
use Rattle.std.specs.Str.{bytes_eq}
use Rattle.std.proofs.lemmas.Bool.{true≢false}
use Rattle.alta_content.proofs.Order.{itself, same_term}
use Rattle.alta_meaning.proofs.Tests.{by_test, filter_drop, filter_keep}
use Rattle.alta_loading.specs.Met.{is_among}

abbrev Terms : Type 0
Terms = List (List ℕ)

module _ (p : List ℕ → Bool) where
  -- no term before this row passes
  pub none_before : (ts : Terms) (n : ℕ) → ((i : ℕ) (t : List ℕ) → slice_get ts i ≡ Some t → i < n → p t ≡ false) → filter p (take n ts) ≡ []
  none_before [] zero h = refl
  none_before [] (suc n) h = refl
  none_before (t ∷ ts) zero h = refl
  none_before (t ∷ ts) (suc n) h = filter_drop p t (take n ts) (h 0 t refl (omega arith)) ∙ none_before ts n (λ i u e l. h (suc i) u e (omega (arith, l)))

  -- nor from this row on
  pub none_behind : (ts : Terms) (n : ℕ) → ((i : ℕ) (t : List ℕ) → slice_get ts i ≡ Some t → n ≤ i → p t ≡ false) → filter p (take n ts) ≡ filter p ts
  none_behind [] zero h = refl
  none_behind [] (suc n) h = refl
  none_behind (t ∷ ts) zero h = sym (filter_drop p t ts (h 0 t refl (omega arith)) ∙ sym (none_behind ts zero (λ i u e l. h (suc i) u e (omega arith))))
  none_behind (t ∷ ts) (suc n) h =
      let rest = none_behind ts n (λ i u e l. h (suc i) u e (omega (arith, l))) in
      by_test (p t)
      (λ y. filter_keep p t (take n ts) y ∙ ap (λ us. t ∷ us) rest ∙ sym (filter_keep p t ts y))
      (λ n'. filter_drop p t (take n ts) n' ∙ rest ∙ sym (filter_drop p t ts n'))

  -- one row more, that passes
  one_row : (ts : Terms) (i : ℕ) (t : List ℕ) → slice_get ts i ≡ Some t → p t ≡ true → filter p (take (suc i) ts) ≡ filter p (take i ts) ++ t ∷ []
  one_row [] i t e y = absurd (cc)
  one_row (u ∷ us) zero t e y =
      let same : u ≡ t = cc in
      filter_keep p u [] (ap p same ∙ y) ∙ ap (λ v. v ∷ []) same
  one_row (u ∷ us) (suc i) t e y =
      let rest = one_row us i t e y in
      by_test (p u)
      (λ k. filter_keep p u (take (suc i) us) k ∙ ap (λ vs. u ∷ vs) rest ∙ sym (ap (λ vs. vs ++ t ∷ []) (filter_keep p u (take i us) k)))
      (λ d. filter_drop p u (take (suc i) us) d ∙ rest ∙ sym (ap (λ vs. vs ++ t ∷ []) (filter_drop p u (take i us) d)))

  pub row_more : (ts : Terms) (i : ℕ) (t : List ℕ) → slice_get ts i ≡ Some t → p t ≡ true → filter p (take (i + 1) ts) ≡ filter p (take i ts) ++ t ∷ []
  row_more ts i t e y = let next : i + 1 ≡ suc i = omega arith in ap (λ (k : ℕ). filter p (take k ts)) next ∙ one_row ts i t e y

-- what is found by halves is there
pub found_is : (ts : Terms) (term : List ℕ) (i : ℕ) → slice_get ts i ≡ Some term → is_among term ts ≡ true
found_is [] term i e = absurd (cc)
found_is (t ∷ ts) term zero e =
    let same : term ≡ t = cc in
    by_test (bytes_eq term t) (λ y. ap (λ b. b || is_among term ts) y) (λ n. absurd (true≢false (sym (ap (bytes_eq term) (sym same) ∙ itself term) ∙ n)))
found_is (t ∷ ts) term (suc i) e =
    let rest = found_is ts term i e in
    by_test (bytes_eq term t) (λ y. ap (λ b. b || is_among term ts) y) (λ n. ap (λ b. b || is_among term ts) n ∙ rest)

pub absent_is : (ts : Terms) (term : List ℕ) → ((i : ℕ) → slice_get ts i ≡ Some term → ⊥) → is_among term ts ≡ false
absent_is [] term none = refl
absent_is (t ∷ ts) term none =
    by_test (bytes_eq term t)
    (λ y. absurd (none 0 (ap Some (sym (same_term term t y)))))
    (λ n. ap (λ b. b || is_among term ts) n ∙ absent_is ts term (λ i e. none (suc i) e))
