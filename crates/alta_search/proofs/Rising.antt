-- Two rising lists of the same elements are one.
use Rattle.std.proofs.Common.{◌≡◌, ⊎_elim, ℕ, ◌<◌, ◌≤◌, List, [], ◌∷◌, refl, subst, ap, ◌∙◌, arith}
use Rattle.std.specs.Prelude.{Contains}
use Rattle.alta_codec.specs.Rising.{IsRising}
use Rattle.alta_codec.proofs.Places.{Contains-head, Contains-tail, Contains-cases, not-Contains-nil}
use Rattle.alta_compound.specs.Unions.{RisesAbove, above_from_rising}

above_all : (low : ℕ) (ys : List ℕ) (z : ℕ) → RisesAbove low ys → Contains ys z → low < z
above_all low [] z r m = absurd (not-Contains-nil z m)
above_all low (y ∷ ys) z (a, b, r) m = ⊎_elim (λ e. omega (arith, a, e)) (λ n. omega (arith, a, above_all y ys z r n)) (Contains-cases y ys z m)

one_from : (low : ℕ) (xs ys : List ℕ) → RisesAbove low xs → RisesAbove low ys → ((z : ℕ) → Contains xs z → Contains ys z) → ((z : ℕ) → Contains ys z → Contains xs z) → xs ≡ ys
one_from low [] [] r s h k = refl
one_from low [] (y ∷ ys) r s h k = absurd (not-Contains-nil y (k y (Contains-head y ys)))
one_from low (x ∷ xs) [] r s h k = absurd (not-Contains-nil x (h x (Contains-head x xs)))
one_from low (x ∷ xs) (y ∷ ys) (a, b, r) (c, d, s) h k =
    let below : y ≤ x = ⊎_elim (λ e. omega (arith, e)) (λ n. omega (arith, above_all y ys x s n)) (Contains-cases y ys x (h x (Contains-head x xs))) in
    let above : x ≤ y = ⊎_elim (λ e. omega (arith, e)) (λ n. omega (arith, above_all x xs y r n)) (Contains-cases x xs y (k y (Contains-head y ys))) in
    let same : x ≡ y = omega (arith, below, above) in
    let there : (z : ℕ) → Contains xs z → Contains ys z =
    λ z m. ⊎_elim (λ e. absurd (omega (arith, e, below, above, above_all x xs z r m))) (λ n. n) (Contains-cases y ys z (h z (Contains-tail x xs z m))) in
    let back : (z : ℕ) → Contains ys z → Contains xs z =
    λ z m. ⊎_elim (λ e. absurd (omega (arith, e, below, above, above_all y ys z s m))) (λ n. n) (Contains-cases x xs z (k z (Contains-tail y ys z m))) in
    ap (λ v. v ∷ xs) same ∙ ap (λ l. y ∷ l) (one_from y xs ys (subst (λ v. RisesAbove v xs) same r) s there back)

pub one_rising : (xs ys : List ℕ) → IsRising xs → IsRising ys → ((z : ℕ) → Contains xs z → Contains ys z) → ((z : ℕ) → Contains ys z → Contains xs z) → xs ≡ ys
one_rising xs ys r s h k = one_from 0 xs ys (above_from_rising xs r) (above_from_rising ys s) h k
