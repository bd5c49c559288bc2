-- Lists of terms in collating order: what is among them, and that two with the same terms are one.
use Rattle.std.proofs.Common.{◌≡◌, ⊎_elim, ℕ, Bool, true, false, ◌||◌, List, [], ◌∷◌, ◌++◌, map, refl, sym, ap, subst, ◌∙◌}
use Rattle.std.specs.Cmp.Lexicographic.{slice_cmp, bytes_decides}
use Rattle.std.specs.List.{AllByRecursion}
use Rattle.std.specs.List.Sorted.{IsStrictlySortedBy}
use Rattle.std.specs.Ordering.{nat_cmp, is_eq, is_le, ordering_reverse}
use Rattle.std.specs.declared.cmp.Ordering.{Ordering}
use Rattle.std.specs.declared.cmp.Ordering.TheVariants.{Less, Equal, Greater}
use Rattle.std.specs.Str.{bytes_eq}
use Rattle.std.proofs.lemmas.Bool.{cases_Bool, or_cases, true≢false}
use Rattle.std.proofs.lemmas.Cmp.{nat_list_cmp_total}
use Rattle.std.proofs.lemmas.Map.Text.{is_eq-slice_cmp}
use Rattle.alta_content.specs.Joining.{in_order, with_term}

abbrev pub cmp : List ℕ → List ℕ → Ordering
cmp t u = slice_cmp nat_cmp t u

-- the term stands before all of these
abbrev pub After : List ℕ → List (List ℕ) → Type 0
After t ts = AllByRecursion (λ u. cmp t u ≡ Less) ts

abbrev pub Sorted : List (List ℕ) → Type 0
Sorted ts = IsStrictlySortedBy (slice_cmp nat_cmp) ts

-- whether the term is one of these
abbrev pub has : List ℕ → List (List ℕ) → Bool
has t [] = false
has t (u ∷ us) = bytes_eq t u || has t us

-- ---- two terms

pub by_order : {G : Type 0} (o : Ordering) → (o ≡ Less → G) → (o ≡ Equal → G) → (o ≡ Greater → G) → G
by_order Less a b c = a refl
by_order Equal a b c = b refl
by_order Greater a b c = c refl

pub same_term : (t u : List ℕ) → bytes_eq t u ≡ true → t ≡ u
same_term t u h = (bytes_decides t u).0 h

pub itself : (t : List ℕ) → bytes_eq t t ≡ true
itself t = (bytes_decides t t).1 refl

pub equal_same : (t u : List ℕ) → cmp t u ≡ Equal → t ≡ u
equal_same t u h = same_term t u (sym (is_eq-slice_cmp t u) ∙ ap is_eq h)

pub less_differs : (t u : List ℕ) → cmp t u ≡ Less → bytes_eq t u ≡ false
less_differs t u h = sym (is_eq-slice_cmp t u) ∙ ap is_eq h

pub greater_less : (t u : List ℕ) → cmp t u ≡ Greater → cmp u t ≡ Less
greater_less t u h = nat_list_cmp_total.antisymm u t ∙ ap ordering_reverse h

pub less_greater : (t u : List ℕ) → cmp t u ≡ Less → cmp u t ≡ Greater
less_greater t u h = nat_list_cmp_total.antisymm u t ∙ ap ordering_reverse h

pub less_on : (t u v : List ℕ) → cmp t u ≡ Less → cmp u v ≡ Less → cmp t v ≡ Less
less_on t u v h k = nat_list_cmp_total.trans t u v h k

-- a term that is not above another and is another one stands before it
le_cases : (o : Ordering) → is_le o ≡ true → is_eq o ≡ false → o ≡ Less
le_cases Less h k = refl
le_cases Equal h k = absurd (true≢false k)
le_cases Greater h k = absurd (true≢false (sym h))

pub le_less : (t u : List ℕ) → is_le (cmp t u) ≡ true → bytes_eq t u ≡ false → cmp t u ≡ Less
le_less t u h k = le_cases (cmp t u) h (is_eq-slice_cmp t u ∙ k)

pub less_differs_back : (t u : List ℕ) → cmp t u ≡ Less → bytes_eq u t ≡ false
less_differs_back t u h = sym (is_eq-slice_cmp u t) ∙ ap is_eq (less_greater t u h)

-- ---- before all of a list

pub after_weaker : (t u : List ℕ) (ts : List (List ℕ)) → cmp t u ≡ Less → After u ts → After t ts
after_weaker t u [] h a = tt
after_weaker t u (v ∷ vs) h a = (less_on t u v h a.0, after_weaker t u vs h a.1)

pub none_of : (t : List ℕ) (ts : List (List ℕ)) → After t ts → has t ts ≡ false
none_of t [] a = refl
none_of t (u ∷ us) a = rw (less_differs t u a.0) (none_of t us a.1)

pub after_has : (t x : List ℕ) (ts : List (List ℕ)) → After t ts → has x ts ≡ true → cmp t x ≡ Less
after_has t x [] a h = absurd (true≢false (sym h))
after_has t x (u ∷ us) a h =
    ⊎_elim (λ e. subst (λ y. cmp t y ≡ Less) (sym (same_term x u e)) a.0) (λ m. after_has t x us a.1 m) (or_cases (bytes_eq x u) (has x us) h)

pub has_head : (u : List ℕ) (us : List (List ℕ)) → has u (u ∷ us) ≡ true
has_head u us = rw (itself u) refl

pub has_more : (x u : List ℕ) (us : List (List ℕ)) → has x us ≡ true → has x (u ∷ us) ≡ true
has_more x u us h = ⊎_elim (λ e. rw e refl) (λ n. rw n h) (cases_Bool (bytes_eq x u))

pub after_from : (t : List ℕ) (ts : List (List ℕ)) → ((x : List ℕ) → has x ts ≡ true → cmp t x ≡ Less) → After t ts
after_from t [] h = tt
after_from t (u ∷ us) h = (h u (has_head u us), after_from t us (λ x m. h x (has_more x u us m)))

pub has_append : (x : List ℕ) (ts us : List (List ℕ)) → has x (ts ++ us) ≡ (has x ts || has x us)
has_append x [] us = refl
has_append x (t ∷ ts) us = ⊎_elim (λ e. rw e refl) (λ n. rw n (has_append x ts us)) (cases_Bool (bytes_eq x t))

-- ---- one list for the same terms

pub iff_same : (a b : Bool) → (a ≡ true → b ≡ true) → (b ≡ true → a ≡ true) → a ≡ b
iff_same true b f g = sym (f refl)
iff_same false true f g = g refl
iff_same false false f g = refl

tail_same : (x y : List ℕ) (xs ys : List (List ℕ)) → x ≡ y → After x xs → After y ys → ((z : List ℕ) → has z (x ∷ xs) ≡ has z (y ∷ ys)) → (z : List ℕ) → has z xs ≡ has z ys
tail_same x y xs ys e a b h z =
    ⊎_elim
    (λ m. let zx : z ≡ x = same_term z x m in
    ap (λ w. has w xs) zx ∙ none_of x xs a ∙ sym (ap (λ w. has w ys) (zx ∙ e) ∙ none_of y ys b))
    (λ n. let k : bytes_eq z y ≡ false = subst (λ w. bytes_eq z w ≡ false) e n in
    sym (ap (λ v. v || has z xs) n) ∙ h z ∙ ap (λ v. v || has z ys) k)
    (cases_Bool (bytes_eq z x))

pub one_list : (xs ys : List (List ℕ)) → Sorted xs → Sorted ys → ((z : List ℕ) → has z xs ≡ has z ys) → xs ≡ ys
unfolding IsStrictlySortedBy
one_list [] [] s r h = refl
one_list [] (y ∷ ys) s r h = absurd (true≢false (sym (has_head y ys) ∙ sym (h y)))
one_list (x ∷ xs) [] s r h = absurd (true≢false (sym (has_head x xs) ∙ h x))
one_list (x ∷ xs) (y ∷ ys) s r h =
    by_order (cmp x y)
    (λ e. absurd (true≢false (sym (has_head x xs) ∙ h x ∙ none_of x (y ∷ ys) (e, after_weaker x y ys e r.0))))
    (λ e. let same : x ≡ y = equal_same x y e in
    ap (λ v. v ∷ xs) same ∙ ap (λ l. y ∷ l) (one_list xs ys s.1 r.1 (tail_same x y xs ys same s.0 r.0 h)))
    (λ e. let less : cmp y x ≡ Less = greater_less x y e in
    absurd (true≢false (sym (has_head y ys) ∙ sym (h y) ∙ none_of y (x ∷ xs) (less, after_weaker y x xs less s.0))))

-- ---- terms in order

after_with : (u t : List ℕ) (ts : List (List ℕ)) → cmp u t ≡ Less → After u ts → After u (with_term t ts)
after_with u t [] h a = (h, tt)
after_with u t (v ∷ vs) h a =
    by_order (cmp t v)
    (λ e. rw e (h, a))
    (λ e. rw e a)
    (λ e. rw e (a.0, after_with u t vs h a.1))

with_sorted : (t : List ℕ) (ts : List (List ℕ)) → Sorted ts → Sorted (with_term t ts)
unfolding IsStrictlySortedBy
with_sorted t [] s = (tt, tt)
with_sorted t (u ∷ us) s =
    by_order (cmp t u)
    (λ e. rw e ((e, after_weaker t u us e s.0), s))
    (λ e. rw e s)
    (λ e. rw e (after_with u t us (greater_less t u e) s.0, with_sorted t us s.1))

or_twice : (a b : Bool) → (a || b) ≡ (a || (a || b))
or_twice true b = refl
or_twice false b = refl

or_swap : (a b c : Bool) → (a || (b || c)) ≡ (b || (a || c))
or_swap true true c = refl
or_swap true false c = refl
or_swap false b c = refl

has_with : (x t : List ℕ) (ts : List (List ℕ)) → has x (with_term t ts) ≡ (bytes_eq x t || has x ts)
has_with x t [] = refl
has_with x t (u ∷ us) =
    by_order (cmp t u)
    (λ e. rw e refl)
    (λ e. rw e (subst (λ v. has x (u ∷ us) ≡ (bytes_eq x v || has x (u ∷ us))) (sym (equal_same t u e)) (or_twice (bytes_eq x u) (has x us))))
    (λ e. rw e (ap (λ v. bytes_eq x u || v) (has_with x t us) ∙ or_swap (bytes_eq x u) (bytes_eq x t) (has x us)))

pub in_order_sorted : (ts : List (List ℕ)) → Sorted (in_order ts)
unfolding IsStrictlySortedBy
in_order_sorted [] = tt
in_order_sorted (t ∷ ts) = with_sorted t (in_order ts) (in_order_sorted ts)

pub has_in_order : (x : List ℕ) (ts : List (List ℕ)) → has x (in_order ts) ≡ has x ts
has_in_order x [] = refl
has_in_order x (t ∷ ts) = has_with x t (in_order ts) ∙ ap (λ v. bytes_eq x t || v) (has_in_order x ts)

-- two functions that agree at each term behind one give the same lists
pub map_after : {X : Type 0} (t : List ℕ) (f g : List ℕ → X) → ((u : List ℕ) → cmp t u ≡ Less → f u ≡ g u) → (us : List (List ℕ)) → After t us → map f us ≡ map g us
map_after t f g h [] a = refl
map_after t f g h (u ∷ us) a = ap (λ v. v ∷ map f us) (h u a.0) ∙ ap (λ l. g u ∷ l) (map_after t f g h us a.1)
