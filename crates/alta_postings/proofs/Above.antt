-- A rising list by recursion, and by index.
use Rattle.std.proofs.Common.{ℕ, zero, suc, ◌<◌, List, [], ◌∷◌, length, get_or, arith}
use Rattle.alta_codec.specs.declared.location.TheConstants.{TOP}
use Rattle.alta_codec.specs.Rising.{IsRising}

abbrev pub RisesAbove : ℕ → List ℕ → Type 0
RisesAbove low [] = Unit {0}
RisesAbove low (y ∷ ys) = (low < y) × (y < TOP) × RisesAbove y ys

low_head : (y : ℕ) (ys : List ℕ) → IsRising (y ∷ ys) → IsRising ys
low_head y ys r = record {
  rising = λ i j l w. r.rising (suc i) (suc j) (omega arith) (omega arith);
  positive = λ i w. r.positive (suc i) (omega arith);
  below = λ i w. r.below (suc i) (omega arith);
}

pub rises_above_from : (low : ℕ) (ys : List ℕ) → IsRising ys → ((i : ℕ) → i < length ys → low < get_or ys i 0) → RisesAbove low ys
rises_above_from low [] r h = tt
rises_above_from low (y ∷ ys) r h = (
  h zero (omega arith),
  r.below zero (omega arith),
  rises_above_from y ys (low_head y ys r) (λ i w. r.rising zero (suc i) (omega arith) (omega arith)),
)

pub rises_above_each : (low : ℕ) (ys : List ℕ) → RisesAbove low ys → (i : ℕ) → i < length ys → (low < get_or ys i 0) × (get_or ys i 0 < TOP)
rises_above_each low [] r i l = absurd (omega arith)
rises_above_each low (y ∷ ys) (a, b, r) zero l = (a, b)
rises_above_each low (y ∷ ys) (a, b, r) (suc i) l =
    let (c, d) = rises_above_each y ys r i (omega arith) in (omega arith, d)

rises_above_pair : (low : ℕ) (ys : List ℕ) → RisesAbove low ys → (i j : ℕ) → i < j → j < length ys → get_or ys i 0 < get_or ys j 0
rises_above_pair low [] r i j h l = absurd (omega arith)
rises_above_pair low (y ∷ ys) (a, b, r) zero zero h l = absurd (omega arith)
rises_above_pair low (y ∷ ys) (a, b, r) zero (suc j) h l = (rises_above_each y ys r j (omega arith)).0
rises_above_pair low (y ∷ ys) (a, b, r) (suc i) zero h l = absurd (omega arith)
rises_above_pair low (y ∷ ys) (a, b, r) (suc i) (suc j) h l = rises_above_pair y ys r i j (omega arith) (omega arith)

pub rising_from_above : (ys : List ℕ) → RisesAbove 0 ys → IsRising ys
rising_from_above ys r = record {
  rising = rises_above_pair 0 ys r;
  positive = λ i l. (rises_above_each 0 ys r i l).0;
  below = λ i l. (rises_above_each 0 ys r i l).1;
}

pub above_from_rising : (ys : List ℕ) → IsRising ys → RisesAbove 0 ys
above_from_rising ys r = rises_above_from 0 ys r r.positive
