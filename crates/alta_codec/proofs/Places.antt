-- Laws of the first element at or above a place, of the last below one, and of counts.
use Rattle.std.proofs.Common.{◌≡◌, ◌⊎◌, ⊎_elim, inl, inr, ℕ, zero, suc, ◌<◌, ◌≤◌, List, [], ◌∷◌, length, get_or, refl, subst, arith}
use Rattle.std.specs.Prelude.{Contains}
use Rattle.std.proofs.lemmas.Bool.{cases_lt}
use Rattle.std.proofs.lemmas.List.{get_or_default}
use Rattle.alta_codec.specs.declared.location.TheConstants.{TOP}
use Rattle.alta_codec.specs.Rising.{IsRising, IsPlace, first_from, pred_of, count_from}

pub first_from-nil : (x : ℕ) → first_from [] x ≡ TOP
unfolding first_from
first_from-nil x = refl

pub pred_of-nil : (x : ℕ) → pred_of [] x ≡ 0
unfolding pred_of
pred_of-nil x = refl

pub first_from-le_top : (xs : List ℕ) (x : ℕ) → first_from xs x ≤ TOP
unfolding first_from
first_from-le_top [] x = grind arith
first_from-le_top (y ∷ ys) x = grind (arith, first_from-le_top ys x)

pub first_from-above : (xs : List ℕ) (x : ℕ) → x ≤ TOP → x ≤ first_from xs x
unfolding first_from
first_from-above [] x h = h
first_from-above (y ∷ ys) x h = grind (arith, first_from-above ys x h)

pub Contains-head : (y : ℕ) (ys : List ℕ) → Contains (y ∷ ys) y
Contains-head y ys = (zero, grind arith, refl)

pub Contains-tail : (y : ℕ) (ys : List ℕ) (z : ℕ) → Contains ys z → Contains (y ∷ ys) z
Contains-tail y ys z (k, l, e) = (suc k, omega arith, e)

pub Contains-cases : (y : ℕ) (ys : List ℕ) (z : ℕ) → Contains (y ∷ ys) z → (y ≡ z) ⊎ Contains ys z
Contains-cases y ys z (zero, l, e) = inl e
Contains-cases y ys z (suc k, l, e) = inr (k, omega arith, e)

pub not-Contains-nil : (z : ℕ) → Contains [] z → ⊥
not-Contains-nil z (k, l, e) = omega arith

-- the first at or above a place is least among the elements there
pub first_from-least : (xs : List ℕ) (x z : ℕ) → Contains xs z → x ≤ z → first_from xs x ≤ z
unfolding first_from
first_from-least [] x z (k, l, e) h = absurd (omega arith)
first_from-least (y ∷ ys) x z m h =
    ⊎_elim (λ e. grind (arith, e)) (λ n. grind (arith, first_from-least ys x z n h)) (Contains-cases y ys z m)

-- one more element in front is the first, or changes nothing
first_from-cases : (y : ℕ) (ys : List ℕ) (x : ℕ) → (y ≡ first_from (y ∷ ys) x) ⊎ (first_from ys x ≡ first_from (y ∷ ys) x)
unfolding first_from
first_from-cases y ys x = grind arith

-- it is an element or TOP
pub first_from-place : (xs : List ℕ) (x : ℕ) → IsPlace xs (first_from xs x)
first_from-place [] x = inr (first_from-nil x)
first_from-place (y ∷ ys) x =
    ⊎_elim (λ e. inl (subst (λ v. Contains (y ∷ ys) v) e (Contains-head y ys)))
    (λ e. subst (λ v. IsPlace (y ∷ ys) v) e
    (⊎_elim (λ m. inl (Contains-tail y ys _ m)) (λ t. inr t) (first_from-place ys x)))
    (first_from-cases y ys x)

-- a place that is least at or above x is the first from there
pub first_from-is : (xs : List ℕ) (x y : ℕ) → IsPlace xs y → y ≤ TOP → x ≤ y
    → ((z : ℕ) → Contains xs z → x ≤ z → y ≤ z) → y ≡ first_from xs x
first_from-is xs x y p top above least =
    let le : first_from xs x ≤ y = ⊎_elim (λ m. first_from-least xs x y m above)
    (λ t. omega (arith, t, first_from-le_top xs x)) p in
    let ge : y ≤ first_from xs x = ⊎_elim (λ m. least _ m (first_from-above xs x (omega arith)))
    (λ t. omega (arith, t, top)) (first_from-place xs x) in
    omega arith

pred_of-cases : (y : ℕ) (ys : List ℕ) (x : ℕ) → (y ≡ pred_of (y ∷ ys) x) ⊎ (pred_of ys x ≡ pred_of (y ∷ ys) x)
unfolding pred_of
pred_of-cases y ys x = grind arith

-- it is an element or 0
pub pred_of-place : (xs : List ℕ) (x : ℕ) → Contains xs (pred_of xs x) ⊎ (pred_of xs x ≡ 0)
pred_of-place [] x = inr (pred_of-nil x)
pred_of-place (y ∷ ys) x =
    ⊎_elim (λ e. inl (subst (λ v. Contains (y ∷ ys) v) e (Contains-head y ys)))
    (λ e. subst (λ v. Contains (y ∷ ys) v ⊎ (v ≡ 0)) e
    (⊎_elim (λ m. inl (Contains-tail y ys _ m)) (λ t. inr t) (pred_of-place ys x)))
    (pred_of-cases y ys x)

pub pred_of-below : (xs : List ℕ) (x : ℕ) → 0 < x → pred_of xs x < x
unfolding pred_of
pred_of-below [] x h = h
pred_of-below (y ∷ ys) x h = grind (arith, pred_of-below ys x h)

pub pred_of-greatest : (xs : List ℕ) (x z : ℕ) → Contains xs z → z < x → z ≤ pred_of xs x
unfolding pred_of
pred_of-greatest [] x z (k, l, e) h = absurd (omega arith)
pred_of-greatest (y ∷ ys) x z m h =
    ⊎_elim (λ e. grind (arith, e)) (λ n. grind (arith, pred_of-greatest ys x z n h)) (Contains-cases y ys z m)

-- the greatest element below x, or 0 where there is none, is the last below x
pub pred_of-is : (xs : List ℕ) (x y : ℕ) → Contains xs y ⊎ (y ≡ 0) → 0 < x → y < x
    → ((z : ℕ) → Contains xs z → z < x → z ≤ y) → y ≡ pred_of xs x
pred_of-is xs x y p positive below greatest =
    let le : y ≤ pred_of xs x = ⊎_elim (λ m. pred_of-greatest xs x y m below) (λ t. omega (arith, t)) p in
    let ge : pred_of xs x ≤ y = ⊎_elim (λ m. greatest _ m (pred_of-below xs x positive))
    (λ t. omega (arith, t)) (pred_of-place xs x) in
    omega arith

pub pred_of-mono : (xs : List ℕ) (x y : ℕ) → x ≤ y → pred_of xs x ≤ pred_of xs y
unfolding pred_of
pred_of-mono [] x y h = grind arith
pred_of-mono (z ∷ zs) x y h = grind (arith, pred_of-mono zs x y h)

pub count_from-mono : (xs : List ℕ) (x y : ℕ) → x ≤ y → count_from xs y ≤ count_from xs x
unfolding count_from
count_from-mono [] x y h = grind arith
count_from-mono (z ∷ zs) x y h = grind (arith, count_from-mono zs x y h)

pub count_from-falls : (xs : List ℕ) (x y : ℕ) → Contains xs x → x < y → count_from xs y < count_from xs x
unfolding count_from
count_from-falls [] x y (k, l, e) h = absurd (omega arith)
count_from-falls (z ∷ zs) x y m h =
    ⊎_elim (λ e. grind (arith, e, count_from-mono zs x y (omega arith)))
    (λ n. grind (arith, count_from-falls zs x y n h)) (Contains-cases z zs x m)

-- a move from an element to a higher place leaves fewer elements at or above
pub move_falls : (xs : List ℕ) (x to : ℕ) → IsPlace xs x → x < to → to ≤ TOP
    → count_from xs (first_from xs to) < count_from xs x
move_falls xs x to p h top =
    ⊎_elim (λ m. let above : to ≤ first_from xs to = first_from-above xs to top in count_from-falls xs x (first_from xs to) m (omega arith))
    (λ t. absurd (omega (arith, t))) p

pub pred_of-below_top : (xs : List ℕ) (x : ℕ) → IsRising xs → pred_of xs x < TOP
pred_of-below_top xs x r =
    ⊎_elim (λ (k, l, e). omega (arith, r.below k l, get_or_default xs k (pred_of xs x) 0 l, e)) (λ z. omega (arith, z)) (pred_of-place xs x)

-- a place at or above a number that the last element below it is not, is the first from there
pub first_from-here : (xs : List ℕ) (x to : ℕ) → IsPlace xs x → x ≤ TOP → pred_of xs x < to → to ≤ x → x ≡ first_from xs to
first_from-here xs x to p top short above =
    first_from-is xs to x p top above
    (λ z m h. ⊎_elim (λ lt. absurd (omega (arith, pred_of-greatest xs x z m lt))) (λ ge. ge) (cases_lt z x))

pub place-le_top : (xs : List ℕ) (x : ℕ) → IsRising xs → IsPlace xs x → x ≤ TOP
place-le_top xs x r p =
    ⊎_elim (λ (k, l, e). omega (arith, r.below k l, get_or_default xs k x 0 l, e)) (λ t. omega (arith, t)) p

-- from a place that none is below, all count
pub count_from-all : (xs : List ℕ) (t : ℕ) → ((i : ℕ) → i < length xs → t ≤ get_or xs i 0) → count_from xs t ≡ length xs
unfolding count_from
count_from-all [] t h = refl
count_from-all (x ∷ xs) t h =
    let rest = count_from-all xs t (λ i l. h (suc i) (omega arith)) in
    let here : t ≤ x = h zero (omega arith) in
    grind (arith, rest, here)
