-- The first element at or above a place, and the last below one, by the index in a rising list.
use Rattle.std.proofs.Common.{◌≡◌, ⊎_elim, inl, inr, ℕ, ◌+◌, ◌<◌, ◌≤◌, List, length, get_or, refl, sym, subst, ap, ◌∙◌, arith}
use Rattle.std.specs.Prelude.{Contains}
use Rattle.std.proofs.lemmas.Bool.{cases_lt}
use Rattle.std.proofs.lemmas.List.{get_or_past, get_or_default}
use Rattle.std.proofs.lemmas.List.Elements.{Contains-get_or}
use Rattle.alta_codec.specs.declared.location.TheConstants.{TOP}
use Rattle.alta_codec.specs.Rising.{IsRising, IsPlace, first_from, pred_of}
use Rattle.alta_codec.proofs.Places.{first_from-is, pred_of-is}

-- what is below a place at one index is below it at each index before
pub below_up_to : (xs : List ℕ) (m to : ℕ) → IsRising xs → m < length xs → get_or xs m 0 < to
    → (k : ℕ) → k < m + 1 → get_or xs k 0 < to
below_up_to xs m to r within low k h =
    ⊎_elim (λ l. omega (arith, r.rising k m l within)) (λ g. let e : k ≡ m = omega arith in subst (λ i. get_or xs i 0 < to) (sym e) low)
    (cases_lt k m)

-- the place at an index, TOP past the end
pub at_place : (xs : List ℕ) (n : ℕ) → IsRising xs → IsPlace xs (get_or xs n TOP) × (get_or xs n TOP ≤ TOP)
at_place xs n r =
    ⊎_elim
    (λ l. (inl (Contains-get_or xs n TOP l), let e : get_or xs n TOP ≡ get_or xs n 0 = get_or_default xs n TOP 0 l in omega (arith, e, r.below n l)))
    (λ g. let e : get_or xs n TOP ≡ TOP = get_or_past xs n TOP g in (inr e, omega (arith, e)))
    (cases_lt n (length xs))

-- a place at an index is at most the elements from there on
pub at_le : (xs : List ℕ) (n k : ℕ) → IsRising xs → n ≤ k → k < length xs → get_or xs n TOP ≤ get_or xs k 0
at_le xs n k r h l =
    let inside : n < length xs = omega arith in
    let e : get_or xs n TOP ≡ get_or xs n 0 = get_or_default xs n TOP 0 inside in
    ⊎_elim (λ lt. omega (arith, e, r.rising n k lt l)) (λ ge. let same : k ≡ n = omega arith in
    subst (λ i. get_or xs n TOP ≤ get_or xs i 0) (sym same) (omega (arith, e))) (cases_lt n k)

-- the elements before an index are below the place there
pub before_at : (xs : List ℕ) (n k : ℕ) → IsRising xs → k < n → k < length xs → get_or xs k 0 < get_or xs n TOP
before_at xs n k r h l =
    ⊎_elim (λ inside. omega (arith, get_or_default xs n TOP 0 inside, r.rising k n h inside))
    (λ past. omega (arith, get_or_past xs n TOP past, r.below k l)) (cases_lt n (length xs))

-- an element with its index
pub element : (xs : List ℕ) (z : ℕ) → Contains xs z → (k : ℕ) × (k < length xs) × (get_or xs k 0 ≡ z)
element xs z (k, l, e) = (k, l, get_or_default xs k 0 z l ∙ e)

pub first_from-at : (xs : List ℕ) (n to : ℕ) → IsRising xs → to ≤ TOP
    → ((k : ℕ) → k < n → get_or xs k 0 < to) → (n < length xs → to ≤ get_or xs n 0)
    → get_or xs n TOP ≡ first_from xs to
first_from-at xs n to r top before after =
    let place = at_place xs n r in
    first_from-is xs to (get_or xs n TOP) place.0 place.1
    (⊎_elim (λ l. omega (arith, get_or_default xs n TOP 0 l, after l)) (λ g. omega (arith, get_or_past xs n TOP g)) (cases_lt n (length xs)))
    (λ z m h. let (k, l, e) = element xs z m in
    ⊎_elim (λ lt. absurd (omega (arith, before k lt, e))) (λ ge. omega (arith, at_le xs n k r ge l, e)) (cases_lt k n))

pub pred_of-at : (xs : List ℕ) (n : ℕ) → IsRising xs → n < length xs → pred_of xs (get_or xs (n + 1) TOP) ≡ get_or xs n 0
pred_of-at xs n r l =
    let lt : get_or xs n 0 < get_or xs (n + 1) TOP = before_at xs (n + 1) n r (omega arith) l in
    sym (pred_of-is xs (get_or xs (n + 1) TOP) (get_or xs n 0) (inl (Contains-get_or xs n 0 l)) (omega arith) lt
    (λ z m h. let (k, inside, e) = element xs z m in
    ⊎_elim (λ low. omega (arith, before_at xs n k r low inside, get_or_default xs n TOP 0 l, e))
    (λ ge. ⊎_elim (λ more. absurd (omega (arith, at_le xs (n + 1) k r (omega arith) inside, e)))
    (λ le. let same : k ≡ n = omega arith in omega (arith, e, ap (λ i. get_or xs i 0) same)) (cases_lt n k))
    (cases_lt k n)))

pub pred_of-at_start : (xs : List ℕ) → IsRising xs → pred_of xs (get_or xs 0 TOP) ≡ 0
pred_of-at_start xs r =
    let positive : 0 < get_or xs 0 TOP =
    ⊎_elim (λ l. omega (arith, get_or_default xs 0 TOP 0 l, r.positive 0 l)) (λ g. omega (arith, get_or_past xs 0 TOP g)) (cases_lt 0 (length xs)) in
    sym (pred_of-is xs (get_or xs 0 TOP) 0 (inr refl) positive positive
    (λ z m h. let (k, inside, e) = element xs z m in absurd (omega (arith, at_le xs 0 k r (omega arith) inside, e))))

-- the next index stands at the next element
pub next_at : (xs : List ℕ) (n : ℕ) → IsRising xs → n < length xs → get_or xs (n + 1) TOP ≡ first_from xs (get_or xs n TOP + 1)
next_at xs n r l =
    let e : get_or xs n TOP ≡ get_or xs n 0 = get_or_default xs n TOP 0 l in
    first_from-at xs (n + 1) (get_or xs n TOP + 1) r (omega (arith, e, r.below n l))
    (λ k h. ⊎_elim (λ lt. omega (arith, e, r.rising k n lt l)) (λ ge. let same : k ≡ n = omega arith in omega (arith, e, ap (λ i. get_or xs i 0) same)) (cases_lt k n))
    (λ more. omega (arith, e, r.rising n (n + 1) (omega arith) more))

-- an index whose place is below TOP is within
pub within_at : (xs : List ℕ) (n : ℕ) → get_or xs n TOP < TOP → n < length xs
within_at xs n h = ⊎_elim (λ l. l) (λ past. absurd (omega (arith, get_or_past xs n TOP past))) (cases_lt n (length xs))
