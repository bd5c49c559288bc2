-- What is left of parts once the lists of their next term are taken.
use Rattle.std.proofs.Common.{◌≡◌, ⊎_elim, ℕ, zero, suc, ◌<◌, Bool, true, false, ◌||◌, cond, List, [], ◌∷◌, ◌++◌, length, map, get_or, refl, sym, ap, subst, ◌∙◌, arith}
use Rattle.std.specs.List.{All, flat_map}
use Rattle.std.specs.List.Sorted.{IsStrictlySortedBy}
use Rattle.std.specs.Ordering.{is_le}
use Rattle.std.specs.declared.cmp.Ordering.TheVariants.{Less}
use Rattle.std.specs.Str.{bytes_eq}
use Rattle.std.specs.Prelude.{nat_lt}
use Rattle.std.proofs.lemmas.Bool.{cases_Bool, true≢false}
use Rattle.std.proofs.lemmas.List.Elements.{All-head, All-tail, All-map, All-weaker}
use Rattle.alta_content.specs.TermList.{TermList}
use Rattle.alta_content.specs.Joining.{gathered, in_order, locations_among, terms_among}
use Rattle.alta_content.specs.Lists.{TermsRise, locations_of, terms_of}
use Rattle.alta_content.specs.Spans.{lists_outside, outside_of}
use Rattle.alta_content.specs.declared.spans.Span.{Span}
use Rattle.alta_content.proofs.Outside.{left_of, outside_some, outside_none}
use Rattle.alta_content.proofs.Gathered.{all_terms, nowhere}
use Rattle.alta_content.specs.Fronts.{front_term}
use Rattle.alta_merge.specs.Fronts.{against, begins, behind, front_of, if_some}
use Rattle.alta_content.proofs.Order.{cmp, After, has, same_term, itself, le_less, less_differs_back, after_weaker, after_has, after_from, has_append, one_list, in_order_sorted, has_in_order, map_after}

-- ---- one part

-- the term is not above those of a part
abbrev pub IsLow : List ℕ → List TermList → Type 0
IsLow t lists = is_le (against t lists) ≡ true

front_is : (t : List ℕ) (lists : List TermList) → TermsRise lists → IsLow t lists → locations_of lists t ≡ front_of t lists
unfolding IsStrictlySortedBy
front_is t [] s h = refl
front_is t (l ∷ ls) s h =
    ⊎_elim
    (λ e. rw e refl)
    (λ n. let less : cmp t l.term ≡ Less = le_less t l.term h n in
    rw n (nowhere t ls (after_weaker t l.term (terms_of ls) less s.0)))
    (cases_Bool (bytes_eq t l.term))

-- what is left rises, behind the term
pub behind_rises : (t : List ℕ) (lists : List TermList) → TermsRise lists → TermsRise (behind t lists)
unfolding IsStrictlySortedBy
behind_rises t [] s = tt
behind_rises t (l ∷ ls) s =
    ⊎_elim (λ e. rw e s.1) (λ n. rw n s) (cases_Bool (bytes_eq t l.term))

pub behind_after : (t : List ℕ) (lists : List TermList) → TermsRise lists → IsLow t lists → After t (terms_of (behind t lists))
unfolding IsStrictlySortedBy
behind_after t [] s h = tt
behind_after t (l ∷ ls) s h =
    ⊎_elim
    (λ e. rw e (subst (λ u. After u (terms_of ls)) (sym (same_term t l.term e)) s.0))
    (λ n. let less : cmp t l.term ≡ Less = le_less t l.term h n in
    rw n (less, after_weaker t l.term (terms_of ls) less s.0))
    (cases_Bool (bytes_eq t l.term))

other_differs : (u t v : List ℕ) → bytes_eq u t ≡ false → bytes_eq t v ≡ true → bytes_eq u v ≡ false
other_differs u t v h e = subst (λ w. bytes_eq u w ≡ false) (same_term t v e) h

-- another term is left as it was
has_behind : (u t : List ℕ) (lists : List TermList) → bytes_eq u t ≡ false → has u (terms_of lists) ≡ has u (terms_of (behind t lists))
has_behind u t [] h = refl
has_behind u t (l ∷ ls) h =
    ⊎_elim
    (λ e. ap (λ b. b || has u (terms_of ls)) (other_differs u t l.term h e) ∙ sym (ap (λ b. has u (terms_of (cond b ls (l ∷ ls)))) e))
    (λ n. sym (ap (λ b. has u (terms_of (cond b ls (l ∷ ls)))) n))
    (cases_Bool (bytes_eq t l.term))

locations_behind : (u t : List ℕ) (lists : List TermList) → bytes_eq u t ≡ false → locations_of lists u ≡ locations_of (behind t lists) u
locations_behind u t [] h = refl
locations_behind u t (l ∷ ls) h =
    ⊎_elim
    (λ e. ap (λ b. cond b l.locations (locations_of ls u)) (other_differs u t l.term h e) ∙ sym (ap (λ b. locations_of (cond b ls (l ∷ ls)) u) e))
    (λ n. sym (ap (λ b. locations_of (cond b ls (l ∷ ls)) u) n))
    (cases_Bool (bytes_eq t l.term))

-- ---- all parts

abbrev pub behind_all : List ℕ → List (List TermList) → List (List TermList)
behind_all t parts = map (behind t) parts

has_behind_all : (u t : List ℕ) (parts : List (List TermList)) → bytes_eq u t ≡ false → has u (all_terms parts) ≡ has u (all_terms (behind_all t parts))
has_behind_all u t [] h = refl
has_behind_all u t (p ∷ ps) h =
    has_append u (terms_of p) (all_terms ps)
    ∙ ap (λ b. b || has u (all_terms ps)) (has_behind u t p h)
    ∙ ap (λ b. has u (terms_of (behind t p)) || b) (has_behind_all u t ps h)
    ∙ sym (has_append u (terms_of (behind t p)) (all_terms (behind_all t ps)))

pub locations_behind_all : (u t : List ℕ) (parts : List (List TermList)) → bytes_eq u t ≡ false → locations_among parts u ≡ locations_among (behind_all t parts) u
locations_behind_all u t [] h = refl
locations_behind_all u t (p ∷ ps) h =
    ap (λ l. l ++ locations_among ps u) (locations_behind u t p h) ∙ ap (λ l. locations_of (behind t p) u ++ l) (locations_behind_all u t ps h)

after_append : (t : List ℕ) (us vs : List (List ℕ)) → After t us → After t vs → After t (us ++ vs)
after_append t [] vs a b = b
after_append t (u ∷ us) vs a b = (a.0, after_append t us vs a.1 b)

behind_all_after : (t : List ℕ) (parts : List (List TermList)) → All TermsRise parts → All (IsLow t) parts → After t (all_terms (behind_all t parts))
behind_all_after t [] s h = tt
behind_all_after t (p ∷ ps) s h =
    after_append t (terms_of (behind t p)) (all_terms (behind_all t ps))
    (behind_after t p (All-head TermsRise p ps s) (All-head (IsLow t) p ps h))
    (behind_all_after t ps (All-tail TermsRise p ps s) (All-tail (IsLow t) p ps h))

pub fronts_are : (t : List ℕ) (parts : List (List TermList)) → All TermsRise parts → All (IsLow t) parts → locations_among parts t ≡ flat_map (front_of t) parts
fronts_are t [] s h = refl
fronts_are t (p ∷ ps) s h =
    ap (λ l. l ++ locations_among ps t) (front_is t p (All-head TermsRise p ps s) (All-head (IsLow t) p ps h))
    ∙ ap (λ l. front_of t p ++ l) (fronts_are t ps (All-tail TermsRise p ps s) (All-tail (IsLow t) p ps h))

-- a part that has a list begins with its term
pub own_front : (lists : List TermList) → 0 < length lists → begins (front_term lists) lists ≡ true
own_front [] h = absurd (omega (arith, h))
own_front (l ∷ ls) h = itself l.term

begins_has : (t : List ℕ) (lists : List TermList) → begins t lists ≡ true → has t (terms_of lists) ≡ true
begins_has t [] h = absurd (true≢false (sym h))
begins_has t (l ∷ ls) h = rw h refl

or_true : (a : Bool) → (a || true) ≡ true
or_true true = refl
or_true false = refl

has_at : (t : List ℕ) (parts : List (List TermList)) (i : ℕ) → i < length parts → begins t (get_or parts i []) ≡ true → has t (all_terms parts) ≡ true
has_at t [] i l h = absurd (omega (arith, l))
has_at t (p ∷ ps) zero l h = has_append t (terms_of p) (all_terms ps) ∙ ap (λ b. b || has t (all_terms ps)) (begins_has t p h)
has_at t (p ∷ ps) (suc i) l h =
    has_append t (terms_of p) (all_terms ps) ∙ ap (λ b. has t (terms_of p) || b) (has_at t ps i (omega arith) h) ∙ or_true (has t (terms_of p))

-- ---- the next term

-- The term is not above any other, and one part begins with it.
pub record IsLeast (t : List ℕ) (parts : List (List TermList)) : Type 0 where
  pub rise : All TermsRise parts
  pub low : All (IsLow t) parts
  pub at : ℕ
  pub within : at < length parts
  pub begun : begins t (get_or parts at []) ≡ true

has_next : (t : List ℕ) (parts : List (List TermList)) → IsLeast t parts → (x : List ℕ) → has x (all_terms parts) ≡ (bytes_eq x t || has x (all_terms (behind_all t parts)))
has_next t parts h x =
    ⊎_elim
    (λ e. let is : has x (all_terms parts) ≡ true = subst (λ u. has u (all_terms parts) ≡ true) (sym (same_term x t e)) (has_at t parts h.at h.within h.begun) in
    is ∙ sym (ap (λ b. b || has x (all_terms (behind_all t parts))) e))
    (λ n. has_behind_all x t parts n ∙ sym (ap (λ b. b || has x (all_terms (behind_all t parts))) n))
    (cases_Bool (bytes_eq x t))

left_after : (t : List ℕ) (parts : List (List TermList)) → IsLeast t parts → After t (terms_among (behind_all t parts))
left_after t parts h =
    let left = all_terms (behind_all t parts) in
    after_from t (in_order left) (λ x m. after_has t x left (behind_all_after t parts h.rise h.low) (sym (has_in_order x left) ∙ m))

-- the next term is the first of all, and the others are those of what is left
pub terms_next : (t : List ℕ) (parts : List (List TermList)) → IsLeast t parts → terms_among parts ≡ t ∷ terms_among (behind_all t parts)
unfolding IsStrictlySortedBy
terms_next t parts h =
    let left = all_terms (behind_all t parts) in
    one_list (terms_among parts) (t ∷ terms_among (behind_all t parts))
    (in_order_sorted (all_terms parts))
    (left_after t parts h, in_order_sorted left)
    (λ x. has_in_order x (all_terms parts) ∙ has_next t parts h x ∙ ap (λ b. bytes_eq x t || b) (sym (has_in_order x left)))

abbrev list_among : List (List TermList) → List ℕ → TermList
list_among parts t = record { term = t; locations = locations_among parts t }

abbrev pub front_list : List ℕ → List (List TermList) → TermList
front_list t parts = record { term = t; locations = flat_map (front_of t) parts }

pub gathered_next : (t : List ℕ) (parts : List (List TermList)) → IsLeast t parts → gathered parts ≡ front_list t parts ∷ gathered (behind_all t parts)
gathered_next t parts h =
    let left = behind_all t parts in
    let build : List ℕ → TermList = λ x. record { term = t; locations = x } in
    ap (map (list_among parts)) (terms_next t parts h)
    ∙ ap (λ x. build x ∷ map (list_among parts) (terms_among left)) (fronts_are t parts h.rise h.low)
    ∙ ap (λ l. front_list t parts ∷ l)
    (map_after t (list_among parts) (list_among left)
    (λ u less. let e : locations_among parts u ≡ locations_among left u = locations_behind_all u t parts (less_differs_back t u less) in
    let f : List ℕ → TermList = λ x. record { term = u; locations = x } in ap f e)
    (terms_among left) (left_after t parts h))

pub rises_next : (t : List ℕ) (parts : List (List TermList)) → All TermsRise parts → All TermsRise (behind_all t parts)
rises_next t parts s = All-map TermsRise (behind t) parts (All-weaker TermsRise (λ p. TermsRise (behind t p)) (λ p q. behind_rises t p q) parts s)

-- what is outside of the spans: of the next term, and then of what is left
pub outside_next : (spans : List Span) (t : List ℕ) (parts : List (List TermList)) → IsLeast t parts
    → lists_outside spans (gathered parts) ≡ if_some (left_of spans (front_list t parts)) ++ lists_outside spans (gathered (behind_all t parts))
outside_next spans t parts h =
    let l = front_list t parts in
    let left = gathered (behind_all t parts) in
    ap (lists_outside spans) (gathered_next t parts h)
    ∙ ⊎_elim
    (λ y. outside_some spans l left y ∙ ap (λ b. cond b (left_of spans l ∷ []) [] ++ lists_outside spans left) (sym y))
    (λ n. outside_none spans l left n ∙ ap (λ b. cond b (left_of spans l ∷ []) [] ++ lists_outside spans left) (sym n))
    (cases_Bool (nat_lt 0 (length (outside_of spans l.locations))))
