-- Laws of the union.
use Rattle.std.proofs.Common.{◌≡◌, ◌⊎◌, ⊎_elim, inl, inr, ℕ, zero, suc, ◌<◌, ◌≤◌, min, ltb, true, false, List, [], ◌∷◌, length, get_or, refl, sym, subst, ◌∙◌, arith}
use Rattle.std.specs.Prelude.{Contains}
use Rattle.std.proofs.lemmas.Bool.{cases_lt}
use Rattle.alta_codec.specs.declared.location.TheConstants.{TOP}
use Rattle.alta_codec.specs.Rising.{IsRising, first_from, count_from}
use Rattle.alta_codec.proofs.Places.{Contains-head, Contains-tail, Contains-cases, not-Contains-nil, first_from-le_top}
use Rattle.alta_compound.specs.Union.{put, union}

put-cases : (x y : ℕ) (ys : List ℕ)
    → (put x (y ∷ ys) ≡ x ∷ y ∷ ys) ⊎ ((put x (y ∷ ys) ≡ y ∷ put x ys) ⊎ ((put x (y ∷ ys) ≡ y ∷ ys) × (x ≡ y)))
unfolding put
put-cases x y ys = ⊎_elim (λ l. inl (grind (arith, l)))
    (λ ge. ⊎_elim (λ l. inr (inl (grind (arith, l)))) (λ le. inr (inr (grind (arith, le), omega arith)))
    (cases_lt y x)) (cases_lt x y)

put-nil : (x : ℕ) → put x [] ≡ x ∷ []
unfolding put
put-nil x = refl

nat_lt-yes : (x y : ℕ) → x < y → ltb x y ≡ true
nat_lt-yes x y h = grind (arith, h)

nat_lt-no : (x y : ℕ) → y ≤ x → ltb x y ≡ false
nat_lt-no x y h = grind (arith, h)

pub put-first : (x : ℕ) (ys : List ℕ) (t : ℕ) → first_from (put x ys) t ≡ first_from (x ∷ ys) t
unfolding put first_from
put-first x [] t = refl
put-first x (y ∷ ys) t = grind (arith, put-first x ys t)

pub union-first : (xs ys : List ℕ) (t : ℕ) → first_from (union xs ys) t ≡ min (first_from xs t) (first_from ys t)
unfolding union first_from
union-first [] ys t = omega (arith, first_from-le_top ys t)
union-first (x ∷ xs) ys t = grind (arith, put-first x (union xs ys) t, union-first xs ys t)

-- membership
put-has : (x : ℕ) (ys : List ℕ) (z : ℕ) → Contains (put x ys) z → (x ≡ z) ⊎ Contains ys z
put-has x [] z m = ⊎_elim (λ e. inl e) (λ n. absurd (not-Contains-nil z n))
    (Contains-cases x [] z (subst (λ l. Contains l z) (put-nil x) m))
put-has x (y ∷ ys) z m =
    ⊎_elim (λ e. Contains-cases x (y ∷ ys) z (subst (λ l. Contains l z) e m))
    (λ rest. ⊎_elim
    (λ e. ⊎_elim (λ h. inr (subst (λ v. Contains (y ∷ ys) v) h (Contains-head y ys)))
    (λ t. ⊎_elim (λ h. inl h) (λ n. inr (Contains-tail y ys z n)) (put-has x ys z t))
    (Contains-cases y (put x ys) z (subst (λ l. Contains l z) e m)))
    (λ (e, same). inr (subst (λ l. Contains l z) e m)) rest)
    (put-cases x y ys)

put-keeps : (x : ℕ) (ys : List ℕ) (z : ℕ) → (x ≡ z) ⊎ Contains ys z → Contains (put x ys) z
put-keeps x [] z m = ⊎_elim (λ e. subst (λ l. Contains l z) (sym (put-nil x))
    (subst (λ v. Contains (x ∷ []) v) e (Contains-head x []))) (λ n. absurd (not-Contains-nil z n)) m
put-keeps x (y ∷ ys) z m =
    ⊎_elim (λ e. subst (λ l. Contains l z) (sym e)
    (⊎_elim (λ h. subst (λ v. Contains (x ∷ y ∷ ys) v) h (Contains-head x (y ∷ ys)))
    (λ n. Contains-tail x (y ∷ ys) z n) m))
    (λ rest. ⊎_elim
    (λ e. subst (λ l. Contains l z) (sym e)
    (⊎_elim (λ h. Contains-tail y (put x ys) z (put-keeps x ys z (inl h)))
    (λ n. ⊎_elim (λ h. subst (λ v. Contains (y ∷ put x ys) v) h (Contains-head y (put x ys)))
    (λ t. Contains-tail y (put x ys) z (put-keeps x ys z (inr t))) (Contains-cases y ys z n)) m))
    (λ (e, same). subst (λ l. Contains l z) (sym e)
    (⊎_elim (λ h. subst (λ v. Contains (y ∷ ys) v) (sym same ∙ h) (Contains-head y ys)) (λ n. n) m)) rest)
    (put-cases x y ys)

pub union-has : (xs ys : List ℕ) (z : ℕ) → Contains (union xs ys) z → Contains xs z ⊎ Contains ys z
unfolding union
union-has [] ys z m = inr m
union-has (x ∷ xs) ys z m =
    ⊎_elim (λ e. inl (subst (λ v. Contains (x ∷ xs) v) e (Contains-head x xs)))
    (λ n. ⊎_elim (λ l. inl (Contains-tail x xs z l)) (λ r. inr r) (union-has xs ys z n))
    (put-has x (union xs ys) z m)

pub union-keeps : (xs ys : List ℕ) (z : ℕ) → Contains xs z ⊎ Contains ys z → Contains (union xs ys) z
unfolding union
union-keeps [] ys z m = ⊎_elim (λ n. absurd (not-Contains-nil z n)) (λ r. r) m
union-keeps (x ∷ xs) ys z m =
    put-keeps x (union xs ys) z
    (⊎_elim (λ l. ⊎_elim (λ e. inl e) (λ n. inr (union-keeps xs ys z (inl n))) (Contains-cases x xs z l))
    (λ r. inr (union-keeps xs ys z (inr r))) m)

-- a rising list by recursion
abbrev pub RisesAbove : ℕ → List ℕ → Type 0
RisesAbove low [] = Unit {0}
RisesAbove low (y ∷ ys) = (low < y) × (y < TOP) × RisesAbove y ys

pub put-rises : (low x : ℕ) (ys : List ℕ) → low < x → x < TOP → RisesAbove low ys → RisesAbove low (put x ys)
unfolding put
put-rises low x [] h t r = (h, t, tt)
put-rises low x (y ∷ ys) h t (l, b, r) =
    ⊎_elim (λ lt. rw (nat_lt-yes x y lt) (h, t, (lt, b, r)))
    (λ ge. ⊎_elim (λ lt. rw (nat_lt-no x y ge, nat_lt-yes y x lt) (l, b, put-rises y x ys lt t r))
    (λ le. rw (nat_lt-no x y ge, nat_lt-no y x le) (l, b, r)) (cases_lt y x))
    (cases_lt x y)

low_head : (y : ℕ) (ys : List ℕ) → IsRising (y ∷ ys) → IsRising ys
low_head y ys r = record {
  rising = λ i j l w. r.rising (suc i) (suc j) (omega arith) (omega arith);
  positive = λ i w. r.positive (suc i) (omega arith);
  below = λ i w. r.below (suc i) (omega arith);
}

pub rises_above_from : (low : ℕ) (ys : List ℕ) → IsRising ys
    → ((i : ℕ) → i < length ys → low < get_or ys i 0) → RisesAbove low ys
rises_above_from low [] r h = tt
rises_above_from low (y ∷ ys) r h = (
  h zero (omega arith),
  r.below zero (omega arith),
  rises_above_from y ys (low_head y ys r) (λ i w. r.rising zero (suc i) (omega arith) (omega arith)),
)

rises_above_each : (low : ℕ) (ys : List ℕ) → RisesAbove low ys → (i : ℕ) → i < length ys
    → (low < get_or ys i 0) × (get_or ys i 0 < TOP)
rises_above_each low [] r i l = absurd (omega arith)
rises_above_each low (y ∷ ys) (a, b, r) zero l = (a, b)
rises_above_each low (y ∷ ys) (a, b, r) (suc i) l =
    let (c, d) = rises_above_each y ys r i (omega arith) in (omega arith, d)

rises_above_pair : (low : ℕ) (ys : List ℕ) → RisesAbove low ys → (i j : ℕ) → i < j → j < length ys
    → get_or ys i 0 < get_or ys j 0
rises_above_pair low [] r i j h l = absurd (omega arith)
rises_above_pair low (y ∷ ys) (a, b, r) zero zero h l = absurd (omega arith)
rises_above_pair low (y ∷ ys) (a, b, r) zero (suc j) h l = (rises_above_each y ys r j (omega arith)).0
rises_above_pair low (y ∷ ys) (a, b, r) (suc i) zero h l = absurd (omega arith)
rises_above_pair low (y ∷ ys) (a, b, r) (suc i) (suc j) h l = rises_above_pair y ys r i j (omega arith) (omega arith)

pub rising_from_above : (ys : List ℕ) → RisesAbove 0 ys → IsRising ys
rising_from_above ys r = record {
  rising = rises_above_pair 0 ys r;
  positive = λ i l. (rises_above_each 0 ys r i l).0;
  below = λ i l. (rises_above_each 0 ys r i l).1;
}

pub above_from_rising : (ys : List ℕ) → IsRising ys → RisesAbove 0 ys
above_from_rising ys r = rises_above_from 0 ys r r.positive

pub union-rises : (xs ys : List ℕ) (low : ℕ) → RisesAbove low xs → RisesAbove 0 ys → RisesAbove 0 (union xs ys)
unfolding union
union-rises [] ys low a b = b
union-rises (x ∷ xs) ys low (a, t, r) b = put-rises 0 x (union xs ys) (omega arith) t (union-rises xs ys x r b)

pub count_same : (all : List ℕ) (m y : ℕ) → m ≤ y → ((z : ℕ) → Contains all z → m ≤ z → y ≤ z)
    → count_from all y ≡ count_from all m
unfolding count_from
count_same [] m y h gap = refl
count_same (z ∷ zs) m y h gap =
    let rest = count_same zs m y h (λ x n. gap x (Contains-tail z zs x n)) in
    let here : m ≤ z → y ≤ z = gap z (Contains-head z zs) in
    grind (arith, rest, here)
