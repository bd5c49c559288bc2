-- A sorted list has the same as the list: as many at or above each place, and the same members.
use Rattle.std.proofs.Common.{◌≡◌, ⊎_elim, ℕ, ◌+◌, ◌<◌, List, [], ◌∷◌, ◌++◌, refl, sym, subst, ◌∙◌, arith}
use Rattle.std.specs.Prelude.{Contains, ◌↔◌}
use Rattle.std.proofs.lemmas.Bool.{cases_lt}
use Rattle.alta_codec.specs.Rising.{count_from}
use Rattle.alta_codec.proofs.Places.{Contains-head, Contains-tail, count_from-falls}
use Rattle.alta_compound.specs.Gathered.{insert_before, sorted}

pub count_from-append : (xs ys : List ℕ) (t : ℕ) → count_from (xs ++ ys) t ≡ count_from xs t + count_from ys t
unfolding count_from
count_from-append [] ys t = omega arith
count_from-append (x ∷ xs) ys t = grind (arith, count_from-append xs ys t)

pub count_from-nil : (t : ℕ) → count_from [] t ≡ 0
unfolding count_from
count_from-nil t = refl

insert_before-count : (x : ℕ) (ys : List ℕ) (t : ℕ) → count_from (insert_before x ys) t ≡ count_from (x ∷ ys) t
unfolding insert_before count_from
insert_before-count x [] t = refl
insert_before-count x (y ∷ ys) t = grind (arith, insert_before-count x ys t)

cons_count : (x : ℕ) (xs ys : List ℕ) (t : ℕ) → count_from xs t ≡ count_from ys t
    → count_from (x ∷ xs) t ≡ count_from (x ∷ ys) t
unfolding count_from
cons_count x xs ys t e = grind (arith, e)

pub sorted-count : (xs : List ℕ) (t : ℕ) → count_from (sorted xs) t ≡ count_from xs t
unfolding sorted
sorted-count [] t = refl
sorted-count (x ∷ xs) t = insert_before-count x (sorted xs) t ∙ cons_count x (sorted xs) xs t (sorted-count xs t)

-- what counts at a number and less from the next on is there
count_has : (xs : List ℕ) (z : ℕ) → count_from xs (z + 1) < count_from xs z → Contains xs z
unfolding count_from
count_has [] z h = absurd (omega arith)
count_has (y ∷ ys) z h =
    ⊎_elim (λ lt. Contains-tail y ys z (count_has ys z (grind (arith, h, lt))))
    (λ ge. ⊎_elim (λ gt. Contains-tail y ys z (count_has ys z (grind (arith, h, gt))))
    (λ le. let e : y ≡ z = omega arith in subst (λ v. Contains (y ∷ ys) v) e (Contains-head y ys))
    (cases_lt z y)) (cases_lt y z)

alike : (xs ys : List ℕ) (z : ℕ) → ((t : ℕ) → count_from xs t ≡ count_from ys t) → Contains xs z → Contains ys z
alike xs ys z e m = count_has ys z (omega (arith, e z, e (z + 1), count_from-falls xs z (z + 1) m (omega arith)))

pub sorted-members : (xs : List ℕ) (z : ℕ) → Contains (sorted xs) z ↔ Contains xs z
sorted-members xs z = (alike (sorted xs) xs z (sorted-count xs), alike xs (sorted xs) z (λ t. sym (sorted-count xs t)))
