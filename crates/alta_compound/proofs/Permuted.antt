-- Unions, and what several lists hold, are the same in whatever order the lists stand.
use Rattle.std.proofs.Common.{◌≡◌, ⊎_elim, inl, inr, ℕ, zero, suc, ◌+◌, ◌<◌, ◌≤◌, leb, true, false, List, [], ◌∷◌, length, get_or, refl, sym, subst, ap, ◌∙◌, arith}
use Rattle.std.specs.Prelude.{Contains, sum_by}
use Rattle.std.specs.List.{concat}
use Rattle.std.specs.List.Sorted.{IsPermutation}
use Rattle.std.proofs.lemmas.Bool.{cases_lt}
use Rattle.std.proofs.lemmas.List.{get_or_default}
use Rattle.std.proofs.lemmas.List.Elements.{Contains-get_or}
use Rattle.std.proofs.lemmas.List.Sorted.{IsPermutation-sym, Contains-permutation, sum_by-IsPermutation}
use Rattle.std.proofs.lemmas.List.Sums.{sum_by-cons}
use Rattle.alta_codec.specs.Rising.{IsRising, count_from}
use Rattle.alta_codec.proofs.Places.{Contains-head, Contains-tail, Contains-cases, not-Contains-nil, count_from-all}
use Rattle.alta_compound.specs.Gathered.{insert_before, sorted, gathered}
use Rattle.alta_compound.specs.Union.{union_of}
use Rattle.alta_compound.specs.Unions.{RisesAbove, union-has, union-keeps, above_from_rising}
use Rattle.alta_compound.specs.Same.{count_from-append, count_from-nil, sorted-count}

above_each : (low : ℕ) (ys : List ℕ) (z : ℕ) → RisesAbove low ys → Contains ys z → low < z
above_each low [] z r m = absurd (not-Contains-nil z m)
above_each low (y ∷ ys) z (a, b, r) m = ⊎_elim (λ e. omega (arith, e)) (λ n. omega (arith, above_each y ys z r n)) (Contains-cases y ys z m)

-- two rising lists of the same elements
same_rising : (low : ℕ) (xs ys : List ℕ) → RisesAbove low xs → RisesAbove low ys
    → ((z : ℕ) → Contains xs z → Contains ys z) → ((z : ℕ) → Contains ys z → Contains xs z) → xs ≡ ys
same_rising low [] [] a b f g = refl
same_rising low [] (y ∷ ys) a b f g = absurd (not-Contains-nil y (g y (Contains-head y ys)))
same_rising low (x ∷ xs) [] a b f g = absurd (not-Contains-nil x (f x (Contains-head x xs)))
same_rising low (x ∷ xs) (y ∷ ys) (a, t, r) (b, u, s) f g =
    let le : x ≤ y = ⊎_elim (λ e. omega (arith, e)) (λ n. omega (arith, above_each x xs y r n)) (Contains-cases x xs y (g y (Contains-head y ys))) in
    let ge : y ≤ x = ⊎_elim (λ e. omega (arith, e)) (λ n. omega (arith, above_each y ys x s n)) (Contains-cases y ys x (f x (Contains-head x xs))) in
    let e : x ≡ y = omega arith in
    let rest : xs ≡ ys = same_rising y xs ys (subst (λ v. RisesAbove v xs) e r) s
    (λ z m. ⊎_elim (λ h. absurd (omega (arith, h, e, above_each x xs z r m))) (λ n. n) (Contains-cases y ys z (f z (Contains-tail x xs z m))))
    (λ z m. ⊎_elim (λ h. absurd (omega (arith, h, e, above_each y ys z s m))) (λ n. n) (Contains-cases x xs z (g z (Contains-tail y ys z m)))) in
    ap (λ v. v ∷ xs) e ∙ ap (λ l. y ∷ l) rest

pub in_union : (ls : List (List ℕ)) (z : ℕ) → Contains (union_of ls) z → (k : ℕ) × (k < length ls) × Contains (get_or ls k []) z
unfolding union_of
in_union [] z m = absurd (not-Contains-nil z m)
in_union (l ∷ ls) z m =
    ⊎_elim (λ a. (zero, omega arith, a)) (λ n. let (k, w, b) = in_union ls z n in (suc k, omega arith, b)) (union-has l (union_of ls) z m)

pub of_union : (ls : List (List ℕ)) (k z : ℕ) → k < length ls → Contains (get_or ls k []) z → Contains (union_of ls) z
unfolding union_of
of_union [] k z w m = absurd (omega arith)
of_union (l ∷ ls) zero z w m = union-keeps l (union_of ls) z (inl m)
of_union (l ∷ ls) (suc k) z w m = union-keeps l (union_of ls) z (inr (of_union ls k z (omega arith) m))

-- an element of one of the lists, wherever that list stands
pub of_list : (ls : List (List ℕ)) (l : List ℕ) (z : ℕ) → Contains ls l → Contains l z → Contains (union_of ls) z
of_list ls l z (k, w, e) m =
    of_union ls k z w (subst (λ xs. Contains xs z) (sym e ∙ get_or_default ls k l [] w) m)

moves_in : (ls ks : List (List ℕ)) (z : ℕ) → IsPermutation ls ks → Contains (union_of ls) z → Contains (union_of ks) z
moves_in ls ks z p m =
    let (k, w, n) = in_union ls z m in
    of_list ks (get_or ls k []) z (Contains-permutation ls ks (get_or ls k []) p (Contains-get_or ls k [] w)) n

pub union_of-permutation : (ls ks : List (List ℕ)) → IsRising (union_of ls) → IsRising (union_of ks) → IsPermutation ls ks → union_of ks ≡ union_of ls
union_of-permutation ls ks r s p =
    same_rising 0 (union_of ks) (union_of ls) (above_from_rising (union_of ks) s) (above_from_rising (union_of ls) r)
    (λ z m. moves_in ks ls z (IsPermutation-sym ls ks p) m) (λ z m. moves_in ls ks z p m)

concat-count : (ls : List (List ℕ)) (t : ℕ) → count_from (concat ls) t ≡ sum_by (λ l. count_from l t) ls
concat-count [] t = count_from-nil t
concat-count (l ∷ ls) t = omega (arith, count_from-append l (concat ls) t, concat-count ls t, sum_by-cons (λ xs. count_from xs t) l ls)

-- no element is below the one before
abbrev Climbs : ℕ → List ℕ → Type 0
Climbs low [] = Unit {0}
Climbs low (y ∷ ys) = (low ≤ y) × Climbs y ys

nat_le-yes : (x y : ℕ) → x ≤ y → leb x y ≡ true
nat_le-yes x y h = grind (arith, h)

nat_le-no : (x y : ℕ) → y < x → leb x y ≡ false
nat_le-no x y h = grind (arith, h)

insert_before-climbs : (low x : ℕ) (ys : List ℕ) → low ≤ x → Climbs low ys → Climbs low (insert_before x ys)
unfolding insert_before
insert_before-climbs low x [] h c = (h, tt)
insert_before-climbs low x (y ∷ ys) h (l, c) =
    ⊎_elim (λ lt. rw (nat_le-no x y lt) (l, insert_before-climbs y x ys (omega arith) c))
    (λ ge. rw (nat_le-yes x y ge) (h, (ge, c))) (cases_lt y x)

sorted-climbs : (xs : List ℕ) → Climbs 0 (sorted xs)
unfolding sorted
sorted-climbs [] = tt
sorted-climbs (x ∷ xs) = insert_before-climbs 0 x (sorted xs) (omega arith) (sorted-climbs xs)

climbs_all : (low : ℕ) (ys : List ℕ) (i : ℕ) → Climbs low ys → i < length ys → low ≤ get_or ys i 0
climbs_all low [] i c l = absurd (omega arith)
climbs_all low (y ∷ ys) zero (h, c) l = h
climbs_all low (y ∷ ys) (suc i) (h, c) l = omega (arith, h, climbs_all y ys i c (omega arith))

count_climbing : (low : ℕ) (ys : List ℕ) (t : ℕ) → Climbs low ys → t ≤ low → count_from ys t ≡ length ys
count_climbing low ys t c h = count_from-all ys t (λ i l. omega (arith, h, climbs_all low ys i c l))

count_le : (ys : List ℕ) (t : ℕ) → count_from ys t ≤ length ys
unfolding count_from
count_le [] t = omega arith
count_le (y ∷ ys) t = grind (arith, count_le ys t)

count_head : (y : ℕ) (ys : List ℕ) (t : ℕ) → t ≤ y → count_from (y ∷ ys) t ≡ 1 + count_from ys t
unfolding count_from
count_head y ys t h = grind (arith, h)

count_skip : (y : ℕ) (ys : List ℕ) (t : ℕ) → y < t → count_from (y ∷ ys) t ≡ count_from ys t
unfolding count_from
count_skip y ys t h = grind (arith, h)

not_above : (x y : ℕ) (xs ys : List ℕ) → Climbs x xs → Climbs y ys → ((t : ℕ) → count_from (x ∷ xs) t ≡ count_from (y ∷ ys) t) → y < x → ⊥
not_above x y xs ys c d e h =
    omega (
      arith,
      e x,
      e y,
      count_head x xs x (omega arith),
      count_climbing x xs x c (omega arith),
      count_head x xs y (omega arith),
      count_climbing x xs y c (omega arith),
      count_head y ys y (omega arith),
      count_climbing y ys y d (omega arith),
      count_skip y ys x h,
      count_le ys x,
    )

-- two lists in order that count alike
same_climbing : (low : ℕ) (xs ys : List ℕ) → Climbs low xs → Climbs low ys → ((t : ℕ) → count_from xs t ≡ count_from ys t) → xs ≡ ys
same_climbing low [] [] c d e = refl
same_climbing low [] (y ∷ ys) c d e = absurd (omega (arith, e 0, count_from-nil 0, count_head y ys 0 (omega arith)))
same_climbing low (x ∷ xs) [] c d e = absurd (omega (arith, e 0, count_from-nil 0, count_head x xs 0 (omega arith)))
same_climbing low (x ∷ xs) (y ∷ ys) (a, c) (b, d) e =
    let le : x ≤ y = ⊎_elim (λ h. absurd (not_above x y xs ys c d e h)) (λ h. h) (cases_lt y x) in
    let ge : y ≤ x = ⊎_elim (λ h. absurd (not_above y x ys xs d c (λ t. sym (e t)) h)) (λ h. h) (cases_lt x y) in
    let same : x ≡ y = omega arith in
    let rest : xs ≡ ys = same_climbing y xs ys (subst (λ v. Climbs v xs) same c) d
    (λ t. ⊎_elim (λ h. omega (arith, e t, count_skip x xs t h, count_skip y ys t (omega arith)))
    (λ h. omega (arith, e t, count_head x xs t h, count_head y ys t (omega arith))) (cases_lt x t)) in
    ap (λ v. v ∷ xs) same ∙ ap (λ l. y ∷ l) rest

pub gathered-permutation : (ls ks : List (List ℕ)) → IsPermutation ls ks → gathered ks ≡ gathered ls
gathered-permutation ls ks p =
    same_climbing 0 (gathered ks) (gathered ls) (sorted-climbs (concat ks)) (sorted-climbs (concat ls))
    (λ t. sorted-count (concat ks) t ∙ concat-count ks t ∙ sum_by-IsPermutation (λ l. count_from l t) ls ks p
    ∙ sym (concat-count ls t) ∙ sym (sorted-count (concat ls) t))
