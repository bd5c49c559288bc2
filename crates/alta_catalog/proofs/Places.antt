-- Where an end stands in a rising list, and the list with it.
use Rattle.std.proofs.Common.{◌≡◌, ◌⊎◌, ⊎_elim, inl, inr, ℕ, zero, suc, ◌<◌, ◌≤◌, true, List, [], ◌∷◌, length, get_or, refl, sym, subst, ap, ◌∙◌, arith, insert}
use Rattle.std.specs.Prelude.{Contains, nat_lt, ◌↔◌, ◌-◌, Some, slice_get, IfOk, IfErr}
use Rattle.std.specs.List.{filter}
use Rattle.std.specs.List.Sorted.{IsBinarySearchResult}
use Rattle.std.specs.Ordering.{nat_cmp}
use Rattle.std.specs.Result.{MatchResult, is_ok}
use Rattle.std.specs.declared.result.Result.{Result}
use Rattle.std.specs.declared.result.Result.TheVariants.{Ok, Err}
use Rattle.std.proofs.lemmas.Bool.{lt-ltb, le-ltb, cases_lt}
use Rattle.std.proofs.lemmas.Option.{slice_get_within, get_or_from_slice_get}
use Rattle.std.proofs.lemmas.List.{get_or_default}
use Rattle.std.proofs.lemmas.List.Elements.{Contains-append_left, Contains-append_right, Contains-append_cases}
use Rattle.std.proofs.lemmas.List.Sorted.{searched}
use Rattle.alta_codec.specs.declared.location.TheConstants.{TOP}
use Rattle.alta_codec.specs.Rising.{IsRising}
use Rattle.alta_catalog.specs.Ends.{with_end}
use Rattle.alta_content.proofs.Rises.{RisesAbove, above_from_rising, above_each, rising_from_above, filter-yes, filter-no, filter-has, filter-keeps, Contains-head, Contains-tail, Contains-cases}

none_below : (e low : ℕ) (xs : List ℕ) → e ≤ low → RisesAbove low xs → filter (λ x. nat_lt x e) xs ≡ []
none_below e low [] h r = refl
none_below e low (x ∷ xs) h (a, b, r) = filter-no (λ x. nat_lt x e) x xs (le-ltb x e (omega arith)) ∙ none_below e x xs (omega arith) r

all_above : (e low : ℕ) (xs : List ℕ) → e ≤ low → RisesAbove low xs → filter (λ x. nat_lt e x) xs ≡ xs
all_above e low [] h r = refl
all_above e low (x ∷ xs) h (a, b, r) =
    filter-yes (λ x. nat_lt e x) x xs (lt-ltb e x (omega arith)) ∙ ap (λ l. x ∷ l) (all_above e x xs (omega arith) r)

-- all elements lie above the end
with_end-first : (e : ℕ) (xs : List ℕ) → RisesAbove e xs → with_end e xs ≡ e ∷ xs
with_end-first e xs r =
    let below = none_below e e xs (omega arith) r in
    let above = all_above e e xs (omega arith) r in
    rw (below, above) refl

-- the first element is the end
with_end-held : (e : ℕ) (xs : List ℕ) → RisesAbove e xs → with_end e (e ∷ xs) ≡ e ∷ xs
with_end-held e xs r =
    let below = filter-no (λ x. nat_lt x e) e xs (le-ltb e e (omega arith)) ∙ none_below e e xs (omega arith) r in
    let above = filter-no (λ x. nat_lt e x) e xs (le-ltb e e (omega arith)) ∙ all_above e e xs (omega arith) r in
    rw (below, above) refl

-- the first element lies below the end
with_end-more : (e x : ℕ) (xs : List ℕ) → x < e → with_end e (x ∷ xs) ≡ x ∷ with_end e xs
with_end-more e x xs h =
    let below = filter-yes (λ x. nat_lt x e) x xs (lt-ltb x e h) in
    let above = filter-no (λ x. nat_lt e x) x xs (le-ltb e x (omega arith)) in
    rw (below, above) refl

-- the list holds the end already
held-above : (e low : ℕ) (xs : List ℕ) (i : ℕ) → RisesAbove low xs → i < length xs → get_or xs i 0 ≡ e → with_end e xs ≡ xs
held-above e low [] i r l h = absurd (omega arith)
held-above e low (x ∷ xs) zero (a, b, r) l h = subst (λ v. with_end v (x ∷ xs) ≡ x ∷ xs) h (with_end-held x xs r)
held-above e low (x ∷ xs) (suc i) (a, b, r) l h =
    let (c, d) = above_each x xs r i (omega arith) in
    with_end-more e x xs (omega arith) ∙ ap (λ l. x ∷ l) (held-above e x xs i r (omega arith) h)

-- the end belongs at the index i
placed-above : (e low : ℕ) (xs : List ℕ) (i : ℕ) → RisesAbove low xs → i ≤ length xs → ((k : ℕ) → k < i → get_or xs k 0 < e)
    → ((k : ℕ) → i ≤ k → k < length xs → e < get_or xs k 0) → with_end e xs ≡ insert xs i e
placed-above e low [] zero r l below above = refl
placed-above e low [] (suc i) r l below above = absurd (omega arith)
placed-above e low (x ∷ xs) zero (a, b, r) l below above = with_end-first e (x ∷ xs) (above zero (omega arith) (omega arith), b, r)
placed-above e low (x ∷ xs) (suc i) (a, b, r) l below above =
    with_end-more e x xs (below zero (omega arith))
    ∙ ap (λ l. x ∷ l) (placed-above e x xs i r (omega arith) (λ k m. below (suc k) (omega arith)) (λ k m n. above (suc k) (omega arith) (omega arith)))

with_end-above : (e low : ℕ) (xs : List ℕ) → low < e → e < TOP → RisesAbove low xs → RisesAbove low (with_end e xs)
with_end-above e low [] h t r = (h, t, tt)
with_end-above e low (x ∷ xs) h t (a, b, r) =
    ⊎_elim
    (λ m. subst (λ l. RisesAbove low l) (sym (with_end-more e x xs m)) (a, b, with_end-above e x xs m t r))
    (λ n. ⊎_elim
    (λ m. subst (λ l. RisesAbove low l) (sym (with_end-first e (x ∷ xs) (m, b, r))) (h, t, (m, b, r)))
    (λ m. let same : x ≡ e = omega arith in
    subst (λ v. RisesAbove low (with_end v (x ∷ xs))) same (subst (λ l. RisesAbove low l) (sym (with_end-held x xs r)) (a, b, r)))
    (cases_lt e x))
    (cases_lt x e)

-- the list rises with the end too
pub with_end-rises : (e : ℕ) (xs : List ℕ) → IsRising xs → 1 ≤ e → e < TOP → IsRising (with_end e xs)
with_end-rises e xs r h t = rising_from_above (with_end e xs) (with_end-above e 0 xs (omega arith) t (above_from_rising xs r))

-- its members are those of the list, and the end
pub with_end-has : (e : ℕ) (xs : List ℕ) (z : ℕ) → Contains (with_end e xs) z ↔ (Contains xs z ⊎ (z ≡ e))
with_end-has e xs z =
    let below = filter (λ x. nat_lt x e) xs in
    let above = filter (λ x. nat_lt e x) xs in (
      λ m. ⊎_elim (λ n. inl (filter-has (λ x. nat_lt x e) xs z n).0)
          (λ n. ⊎_elim (λ s. inr (sym s)) (λ n. inl (filter-has (λ x. nat_lt e x) xs z n).0) (Contains-cases e above z n))
          (Contains-append_cases below (e ∷ above) z m),
      λ m. ⊎_elim
          (λ n. ⊎_elim
          (λ l. Contains-append_left below (e ∷ above) z (filter-keeps (λ x. nat_lt x e) xs z n (lt-ltb z e l)))
          (λ g. Contains-append_right below (e ∷ above) z
          (⊎_elim (λ l. Contains-tail e above z (filter-keeps (λ x. nat_lt e x) xs z n (lt-ltb e z l)))
          (λ l. let same : e ≡ z = omega arith in subst (λ v. Contains (e ∷ above) v) same (Contains-head e above))
          (cases_lt e z)))
          (cases_lt z e))
          (λ s. Contains-append_right below (e ∷ above) z (subst (λ v. Contains (e ∷ above) v) (sym s) (Contains-head e above)))
          m,
    )

-- what a search in a rising list says
abbrev pub Found : List ℕ → ℕ → Result ℕ ℕ → Type 0
Found xs e r =
    MatchResult r (λ i. (i < length xs) × (get_or xs i 0 ≡ e))
    (λ i. (i ≤ length xs) × ((k : ℕ) → k < i → get_or xs k 0 < e) × ((k : ℕ) → i ≤ k → k < length xs → e < get_or xs k 0))

pub found : (xs : List ℕ) (e : ℕ) (r : Result ℕ ℕ) → IsRising xs → IsBinarySearchResult (λ y. nat_cmp y e) xs r → Found xs e r
found xs e r s h =
    searched xs e r h (λ i j l m. ⊎_elim (λ n. let up = s.rising i j n m in omega arith) (λ n. let same : i ≡ j = omega arith in subst (λ k. get_or xs i 0 ≤ get_or xs k 0) same (omega arith)) (cases_lt i j))

-- the end is held exactly where a search finds it
pub held-found : (xs : List ℕ) (e : ℕ) (r : Result ℕ ℕ) → Found xs e r → (is_ok r ≡ true) ↔ Contains xs e
held-found xs e (Ok i) (l, h) = (λ _. (i, l, get_or_default xs i e 0 l ∙ h), λ _. refl)
held-found xs e (Err i) (l, below, above) = (
  λ c. absurd cc,
  λ (k, m, at). ⊎_elim
      (λ n. let lt = below k n in absurd (omega (arith, lt, get_or_default xs k e 0 m, at)))
      (λ n. let gt = above k n m in absurd (omega (arith, gt, get_or_default xs k e 0 m, at)))
      (cases_lt k i),
)

-- an end that a search finds is in its place already
pub held-same : (xs : List ℕ) (e : ℕ) (r : Result ℕ ℕ) → IsRising xs → Found xs e r → IfOk r (λ _. with_end e xs ≡ xs)
held-same xs e (Ok i) s (l, h) = held-above e 0 xs i (above_from_rising xs s) l h
held-same xs e (Err i) s h = tt

-- one that it does not find belongs where the search says
pub placed : (xs : List ℕ) (e : ℕ) (r : Result ℕ ℕ) → IsRising xs → Found xs e r → IfErr r (λ i. with_end e xs ≡ insert xs i e)
placed xs e (Ok i) s h = tt
placed xs e (Err i) s (l, below, above) = placed-above e 0 xs i (above_from_rising xs s) l below above

-- one above the last belongs behind it
pub placed-last : (xs : List ℕ) (e last : ℕ) → IsRising xs → Some last ≡ slice_get xs (length xs - 1) → last < e → with_end e xs ≡ insert xs (length xs) e
placed-last xs e last s h above =
    let within = slice_get_within xs (length xs - 1) last (sym h) in
    let at = get_or_from_slice_get xs (length xs - 1) last 0 (sym h) in
    let below : (k : ℕ) → k < length xs → get_or xs k 0 < e = λ k l.
    ⊎_elim (λ m. let up = s.rising k (length xs - 1) m within in omega (arith, up, at))
    (λ m. let same : length xs - 1 ≡ k = omega arith in subst (λ i. get_or xs i 0 < e) same (omega (arith, at)))
    (cases_lt k (length xs - 1)) in
    placed-above e 0 xs (length xs) (above_from_rising xs s) (omega arith) below (λ k l m. absurd (omega arith))
