-- Which terms meet a test, in collating order.
use Rattle.std.proofs.Common.{◌≡◌, ◌⊎◌, ⊎_elim, inl, inr, ℕ, zero, suc, ◌<◌, length, Bool, true, false, not, cond, ◌&&◌, ◌||◌, List, [], ◌∷◌, ◌++◌, refl, sym, ap, subst, ◌∙◌, arith}
use Rattle.std.specs.Prelude.{All, Contains, flat_map}
use Rattle.std.specs.Cmp.Lexicographic.{nat_list_eq_equiv, slice_cmp, texts_ties}
use Rattle.std.specs.List.{dedup, filter, list_any}
use Rattle.std.specs.List.Sorted.{IsPermutation, IsSorted, IsStrictlySortedBy}
use Rattle.std.specs.Ordering.{nat_cmp}
use Rattle.std.specs.Str.{bytes_eq}
use Rattle.std.proofs.lemmas.Bool.{cases_Bool, or_cases, true≢false}
use Rattle.std.proofs.lemmas.Cmp.{nat_list_cmp_total}
use Rattle.std.proofs.lemmas.List.Elements.{All-head, All-tail}
use Rattle.std.proofs.lemmas.List.Folds.{list_any-append}
use Rattle.std.proofs.lemmas.List.Kept.{Contains-dedup, Contains-from_dedup, IsStrictlySortedBy-dedup}
use Rattle.std.proofs.lemmas.List.Sorted.{list_any-IsPermutation}
use Rattle.alta_content.specs.Joining.{in_order}
use Rattle.alta_content.specs.Lists.{locations_of, terms_of}
use Rattle.alta_content.specs.TermList.{TermList}
use Rattle.alta_content.proofs.Order.{Sorted, has, has_append, has_head, has_in_order, has_more, iff_same, in_order_sorted, one_list, same_term}
use Rattle.alta_loading.specs.Met.{is_among}
use Rattle.alta_memlevel.proofs.Prefixes.{filter_rises}
use Rattle.alta_machine.specs.declared.test.Test.TheVariants.{Is}
use Rattle.alta_search.specs.Newest.{term_meets}

-- ---- what is among terms

pub has_among : (t : List ℕ) (ts : List (List ℕ)) → has t ts ≡ is_among t ts
has_among t [] = refl
has_among t (u ∷ us) = ap (λ b. bytes_eq t u || b) (has_among t us)

pub has_contains : (t : List ℕ) (ts : List (List ℕ)) → has t ts ≡ true → Contains ts t
has_contains t [] h = absurd (true≢false (sym h))
has_contains t (u ∷ us) h =
    ⊎_elim (λ e. (zero, omega arith, sym (same_term t u e))) (λ m. let (k, l, e) = has_contains t us m in (suc k, omega (arith, l), e)) (or_cases (bytes_eq t u) (has t us) h)

pub contains_has : (t : List ℕ) (ts : List (List ℕ)) → Contains ts t → has t ts ≡ true
contains_has t [] (k, l, e) = absurd (omega (arith, l))
contains_has t (u ∷ us) (zero, l, e) = subst (λ v. has v (u ∷ us) ≡ true) e (has_head u us)
contains_has t (u ∷ us) (suc k, l, e) = has_more t u us (contains_has t us (k, omega (arith, l), e))

and_false : (b : Bool) → (b && false) ≡ false
and_false true = refl
and_false false = refl

abbrev kept : Bool → List ℕ → List (List ℕ) → List (List ℕ)
kept b t ts = cond b (t ∷ ts) ts

pub has_filter : (p : List ℕ → Bool) (t : List ℕ) (ts : List (List ℕ)) → has t (filter p ts) ≡ (p t && has t ts)
has_filter p t [] = sym (and_false (p t))
has_filter p t (u ∷ us) =
    let rest = has_filter p t us in
    ⊎_elim
    (λ e. let same = ap p (same_term t u e) in
    ⊎_elim
    (λ y. ap (λ b. has t (kept b u (filter p us))) y ∙ ap (λ b. b || has t (filter p us)) e ∙ sym (ap (λ b. b && (bytes_eq t u || has t us)) (same ∙ y) ∙ ap (λ b. b || has t us) e))
    (λ n. ap (λ b. has t (kept b u (filter p us))) n ∙ rest ∙ ap (λ b. b && has t us) (same ∙ n) ∙ sym (ap (λ b. b && (bytes_eq t u || has t us)) (same ∙ n)))
    (cases_Bool (p u)))
    (λ o. ⊎_elim
    (λ y. ap (λ b. has t (kept b u (filter p us))) y ∙ ap (λ b. b || has t (filter p us)) o ∙ rest ∙ sym (ap (λ b. p t && (b || has t us)) o))
    (λ n. ap (λ b. has t (kept b u (filter p us))) n ∙ rest ∙ sym (ap (λ b. p t && (b || has t us)) o))
    (cases_Bool (p u)))
    (cases_Bool (bytes_eq t u))

-- terms in order that have just those that pass are those that are left
met_from : (p : List ℕ → Bool) (ts found : List (List ℕ)) → Sorted found → ((z : List ℕ) → has z found ≡ (p z && has z ts)) → found ≡ filter p (in_order ts)
met_from p ts found s h =
    one_list found (filter p (in_order ts)) s (filter_rises p (in_order ts) (in_order_sorted ts)) (λ z. h z ∙ sym (has_filter p z (in_order ts) ∙ ap (λ b. p z && b) (has_in_order z ts)))

-- ---- a term in full

none_sorted : Sorted []
unfolding IsStrictlySortedBy
none_sorted = tt

one_sorted : (t : List ℕ) → Sorted (t ∷ [])
unfolding IsStrictlySortedBy
one_sorted t = (tt, tt)

pub none_met : (term : List ℕ) (ts : List (List ℕ)) → is_among term ts ≡ false → [] ≡ filter (term_meets (Is term)) (in_order ts)
none_met term ts none =
    met_from (term_meets (Is term)) ts [] none_sorted
    (λ z. ⊎_elim
    (λ e. sym (ap (λ b. b && has z ts) e ∙ ap (λ t. has t ts) (same_term z term e) ∙ has_among term ts ∙ none))
    (λ n. sym (ap (λ b. b && has z ts) n))
    (cases_Bool (bytes_eq z term)))

pub one_met : (term : List ℕ) (ts : List (List ℕ)) → is_among term ts ≡ true → term ∷ [] ≡ filter (term_meets (Is term)) (in_order ts)
one_met term ts some =
    met_from (term_meets (Is term)) ts (term ∷ []) (one_sorted term)
    (λ z. ⊎_elim
    (λ e. ap (λ b. b || false) e ∙ sym (ap (λ b. b && has z ts) e ∙ ap (λ t. has t ts) (same_term z term e) ∙ has_among term ts ∙ some))
    (λ n. ap (λ b. b || false) n ∙ sym (ap (λ b. b && has z ts) n))
    (cases_Bool (bytes_eq z term)))

-- ---- terms that were gathered

has_parts : {X : Type 0} (f : X → List (List ℕ)) (p : List ℕ → Bool) (z : List ℕ) (xs : List X) → has z (flat_map (λ x. filter p (f x)) xs) ≡ (p z && has z (flat_map f xs))
has_parts f p z [] = sym (and_false (p z))
has_parts f p z (x ∷ xs) =
    has_append z (filter p (f x)) (flat_map (λ y. filter p (f y)) xs)
    ∙ ap (λ b. b || has z (flat_map (λ y. filter p (f y)) xs)) (has_filter p z (f x))
    ∙ ap (λ b. (p z && has z (f x)) || b) (has_parts f p z xs)
    ∙ both (p z) (has z (f x)) (has z (flat_map f xs))
    ∙ sym (ap (λ b. p z && b) (has_append z (f x) (flat_map f xs)))
  where
    both : (a b c : Bool) → ((a && b) || (a && c)) ≡ (a && (b || c))
    both true b c = refl
    both false b c = refl

turned : (a b c : Bool) → ((a && b) || (a && c)) ≡ (a && (c || b))
turned true true true = refl
turned true true false = refl
turned true false true = refl
turned true false false = refl
turned false b c = refl

-- the terms of some, that pass, and behind them those of others, are those of all that pass
pub gathered_met : {X : Type 0} (f : X → List (List ℕ)) (p : List ℕ → Bool) (xs : List X) (ts : List (List ℕ))
    → in_order (filter p ts ++ flat_map (λ x. filter p (f x)) xs) ≡ filter p (in_order (flat_map f xs ++ ts))
gathered_met f p xs ts =
    let all = filter p ts ++ flat_map (λ x. filter p (f x)) xs in
    met_from p (flat_map f xs ++ ts) (in_order all) (in_order_sorted all)
    (λ z. has_in_order z all
    ∙ has_append z (filter p ts) (flat_map (λ x. filter p (f x)) xs)
    ∙ ap (λ b. b || has z (flat_map (λ x. filter p (f x)) xs)) (has_filter p z ts)
    ∙ ap (λ b. (p z && has z ts) || b) (has_parts f p z xs)
    ∙ turned (p z) (has z ts) (has z (flat_map f xs))
    ∙ sym (ap (λ b. p z && b) (has_append z (flat_map f xs) ts)))

-- ---- terms that were sorted

pub sorted_once : (old new : List (List ℕ)) → IsPermutation old new → IsSorted (slice_cmp nat_cmp) new → dedup bytes_eq new ≡ in_order old
sorted_once old new moved up =
    one_list (dedup bytes_eq new) (in_order old) (IsStrictlySortedBy-dedup nat_list_cmp_total (λ x y. texts_ties x y) new up) (in_order_sorted old)
    (λ z. iff_same (has z (dedup bytes_eq new)) (has z new)
    (λ h. contains_has z new (Contains-from_dedup bytes_eq new z (has_contains z (dedup bytes_eq new) h)))
    (λ h. contains_has z (dedup bytes_eq new) (Contains-dedup nat_list_eq_equiv (λ x y e. same_term x y e) new z (has_contains z new h)))
    ∙ has_among z new ∙ sym (has_among z old ∙ list_any-IsPermutation (bytes_eq z) old new moved) ∙ sym (has_in_order z old))

-- ---- a term among those of several

pub any_parts : {X : Type 0} (f : X → List (List ℕ)) (p : List ℕ → Bool) (xs : List X) (ts : List (List ℕ)) → list_any p (flat_map f xs ++ ts) ≡ (list_any (λ x. list_any p (f x)) xs || list_any p ts)
any_parts f p xs ts =
    list_any-append p (flat_map f xs) ts ∙ ap (λ b. b || list_any p ts) (each xs)
  where
    each : (ys : List _) → list_any p (flat_map f ys) ≡ list_any (λ x. list_any p (f x)) ys
    each [] = refl
    each (y ∷ ys) = list_any-append p (f y) (flat_map f ys) ∙ ap (λ b. list_any p (f y) || b) (each ys)

-- ---- a term of the newest documents

abbrev HasSome : TermList → Type 0
HasSome l = 0 < length l.locations

located : (lists : List TermList) (term : List ℕ) → All HasSome lists
    → ((is_among term (terms_of lists) ≡ true) × (0 < length (locations_of lists term))) ⊎ ((is_among term (terms_of lists) ≡ false) × (length (locations_of lists term) ≡ 0))
located [] term some = inr (refl, refl)
located (l ∷ ls) term some =
    let more = is_among term (terms_of ls) in
    ⊎_elim
    (λ y. inl (ap (λ b. b || more) y, subst (λ b. 0 < length (cond b l.locations (locations_of ls term))) (sym y) (All-head HasSome l ls some)))
    (λ n. ⊎_elim
    (λ h. inl (ap (λ b. b || more) n ∙ h.0, subst (λ b. 0 < length (cond b l.locations (locations_of ls term))) (sym n) h.1))
    (λ h. inr (ap (λ b. b || more) n ∙ h.0, ap (λ b. length (cond b l.locations (locations_of ls term))) n ∙ h.1))
    (located ls term (All-tail HasSome l ls some)))
    (cases_Bool (bytes_eq term l.term))

pub located_is : (lists : List TermList) (term : List ℕ) (none : Bool) → All HasSome lists → (none ≡ true → length (locations_of lists term) ≡ 0) → (none ≡ false → 0 < length (locations_of lists term))
    → not none ≡ is_among term (terms_of lists)
located_is lists term true some h k = ⊎_elim (λ m. absurd (omega (arith, m.1, h refl))) (λ n. sym n.0) (located lists term some)
located_is lists term false some h k = ⊎_elim (λ m. sym m.0) (λ n. absurd (omega (arith, n.1, k refl))) (located lists term some)
