-- Rising lists element by element, and what a test leaves of one.
use Rattle.std.proofs.Common.{◌≡◌, ◌⊎◌, ⊎_elim, inl, inr, ℕ, zero, suc, ◌<◌, ◌≤◌, Bool, true, false, cond, List, [], ◌∷◌, length, get_or, refl, sym, subst, ap, ◌∙◌, arith}
use Rattle.std.specs.Prelude.{Contains}
use Rattle.std.specs.List.{filter}
use Rattle.std.proofs.lemmas.Bool.{cases_Bool}
use Rattle.alta_codec.specs.declared.location.TheConstants.{TOP}
use Rattle.alta_codec.specs.Rising.{IsRising}

-- each element lies above the one before, the first above `low`, and all below TOP
abbrev pub RisesAbove : ℕ → List ℕ → Type 0
RisesAbove low [] = Unit {0}
RisesAbove low (x ∷ xs) = (low < x) × (x < TOP) × RisesAbove x xs

rest_rises : (x : ℕ) (xs : List ℕ) → IsRising (x ∷ xs) → IsRising xs
rest_rises x xs r = record {
  rising = λ i j l w. r.rising (suc i) (suc j) (omega arith) (omega arith);
  positive = λ i w. r.positive (suc i) (omega arith);
  below = λ i w. r.below (suc i) (omega arith);
}

above_from : (low : ℕ) (xs : List ℕ) → IsRising xs → ((i : ℕ) → i < length xs → low < get_or xs i 0) → RisesAbove low xs
above_from low [] r h = tt
above_from low (x ∷ xs) r h = (
  h zero (omega arith),
  r.below zero (omega arith),
  above_from x xs (rest_rises x xs r) (λ i w. r.rising zero (suc i) (omega arith) (omega arith)),
)

pub above_from_rising : (xs : List ℕ) → IsRising xs → RisesAbove 0 xs
above_from_rising xs r = above_from 0 xs r r.positive

pub above_each : (low : ℕ) (xs : List ℕ) → RisesAbove low xs → (i : ℕ) → i < length xs → (low < get_or xs i 0) × (get_or xs i 0 < TOP)
above_each low [] r i l = absurd (omega arith)
above_each low (x ∷ xs) (a, b, r) zero l = (a, b)
above_each low (x ∷ xs) (a, b, r) (suc i) l =
    let (c, d) = above_each x xs r i (omega arith) in (omega arith, d)

above_pair : (low : ℕ) (xs : List ℕ) → RisesAbove low xs → (i j : ℕ) → i < j → j < length xs → get_or xs i 0 < get_or xs j 0
above_pair low [] r i j h l = absurd (omega arith)
above_pair low (x ∷ xs) (a, b, r) zero zero h l = absurd (omega arith)
above_pair low (x ∷ xs) (a, b, r) zero (suc j) h l = (above_each x xs r j (omega arith)).0
above_pair low (x ∷ xs) (a, b, r) (suc i) zero h l = absurd (omega arith)
above_pair low (x ∷ xs) (a, b, r) (suc i) (suc j) h l = above_pair x xs r i j (omega arith) (omega arith)

pub rising_from_above : (xs : List ℕ) → RisesAbove 0 xs → IsRising xs
rising_from_above xs r = record {
  rising = above_pair 0 xs r;
  positive = λ i l. (above_each 0 xs r i l).0;
  below = λ i l. (above_each 0 xs r i l).1;
}

pub above_lower : (low high : ℕ) (xs : List ℕ) → low ≤ high → RisesAbove high xs → RisesAbove low xs
above_lower low high [] h r = tt
above_lower low high (x ∷ xs) h (a, b, r) = (omega arith, b, r)

-- ---- what a test leaves
pub filter-yes : (p : ℕ → Bool) (x : ℕ) (xs : List ℕ) → p x ≡ true → filter p (x ∷ xs) ≡ x ∷ filter p xs
filter-yes p x xs h = ap (λ b. cond b (x ∷ filter p xs) (filter p xs)) h

pub filter-no : (p : ℕ → Bool) (x : ℕ) (xs : List ℕ) → p x ≡ false → filter p (x ∷ xs) ≡ filter p xs
filter-no p x xs h = ap (λ b. cond b (x ∷ filter p xs) (filter p xs)) h

filter-above : (p : ℕ → Bool) (low : ℕ) (xs : List ℕ) → RisesAbove low xs → RisesAbove low (filter p xs)
filter-above p low [] r = tt
filter-above p low (x ∷ xs) (a, b, r) =
    ⊎_elim (λ yes. subst (λ l. RisesAbove low l) (sym (filter-yes p x xs yes)) (a, b, filter-above p x xs r))
    (λ no. subst (λ l. RisesAbove low l) (sym (filter-no p x xs no)) (above_lower low x (filter p xs) (omega arith) (filter-above p x xs r)))
    (cases_Bool (p x))

pub filter-rises : (p : ℕ → Bool) (xs : List ℕ) → IsRising xs → IsRising (filter p xs)
filter-rises p xs r = rising_from_above (filter p xs) (filter-above p 0 xs (above_from_rising xs r))

-- ---- members
pub Contains-head : (x : ℕ) (xs : List ℕ) → Contains (x ∷ xs) x
Contains-head x xs = (zero, omega arith, refl)

pub Contains-tail : (x : ℕ) (xs : List ℕ) (z : ℕ) → Contains xs z → Contains (x ∷ xs) z
Contains-tail x xs z (k, l, e) = (suc k, omega arith, e)

pub Contains-cases : (x : ℕ) (xs : List ℕ) (z : ℕ) → Contains (x ∷ xs) z → (x ≡ z) ⊎ Contains xs z
Contains-cases x xs z (zero, l, e) = inl e
Contains-cases x xs z (suc k, l, e) = inr (k, omega arith, e)

not-Contains-nil : (z : ℕ) → Contains [] z → ⊥
not-Contains-nil z (k, l, e) = omega arith

pub filter-has : (p : ℕ → Bool) (xs : List ℕ) (z : ℕ) → Contains (filter p xs) z → Contains xs z × (p z ≡ true)
filter-has p [] z m = absurd (not-Contains-nil z m)
filter-has p (x ∷ xs) z m =
    ⊎_elim
    (λ yes. ⊎_elim (λ e. (subst (λ v. Contains (x ∷ xs) v) e (Contains-head x xs), ap p (sym e) ∙ yes))
    (λ n. let r = filter-has p xs z n in (Contains-tail x xs z r.0, r.1))
    (Contains-cases x (filter p xs) z (subst (λ l. Contains l z) (filter-yes p x xs yes) m)))
    (λ no. let r = filter-has p xs z (subst (λ l. Contains l z) (filter-no p x xs no) m) in (Contains-tail x xs z r.0, r.1))
    (cases_Bool (p x))

pub filter-keeps : (p : ℕ → Bool) (xs : List ℕ) (z : ℕ) → Contains xs z → p z ≡ true → Contains (filter p xs) z
filter-keeps p [] z m h = absurd (not-Contains-nil z m)
filter-keeps p (x ∷ xs) z m h =
    ⊎_elim
    (λ yes. subst (λ l. Contains l z) (sym (filter-yes p x xs yes))
    (⊎_elim (λ e. subst (λ v. Contains (x ∷ filter p xs) v) e (Contains-head x (filter p xs)))
    (λ n. Contains-tail x (filter p xs) z (filter-keeps p xs z n h)) (Contains-cases x xs z m)))
    (λ no. ⊎_elim (λ e. let c : true ≡ false = sym h ∙ ap p (sym e) ∙ no in absurd cc)
    (λ n. subst (λ l. Contains l z) (sym (filter-no p x xs no)) (filter-keeps p xs z n h)) (Contains-cases x xs z m))
    (cases_Bool (p x))
