-- What the readers cost that stand before a place.
use Rattle.std.proofs.Common.{◌≡◌, ℕ, ◌+◌, ◌<◌, ◌≤◌, List, length, get_or, set, arith}
use Rattle.std.specs.Prelude.{sum_by}
use Rattle.std.specs.List.Sorted.{IsPermutation}
use Rattle.std.proofs.lemmas.List.Sums.{sum_by-le-sum_by}
use Rattle.alta_compound.specs.Moves.{cost_before}
use Rattle.alta_compound.proofs.Heaps.{left_after}

module _ {R : Type 0} (cost location : R → ℕ) (to : ℕ) where
  pub cost_before-here : (r : R) → location r < to → cost_before cost location to r ≡ cost r
  cost_before-here r l = grind arith

  pub cost_before-past : (r : R) → to ≤ location r → cost_before cost location to r ≡ 0
  cost_before-past r l = grind arith

  pub cost_before-le : (rs : List R) → sum_by (cost_before cost location to) rs ≤ sum_by cost rs
  cost_before-le rs = sum_by-le-sum_by (cost_before cost location to) cost rs (λ r. grind arith)

  -- the first reader has moved to the place or past it, and the order changed
  pub cost_after : (old new : List R) (moved d : R) → 0 < length old → IsPermutation (set old 0 moved) new
      → location (get_or old 0 d) < to → to ≤ location moved
      → sum_by (cost_before cost location to) new + cost (get_or old 0 d) ≡ sum_by (cost_before cost location to) old
  cost_after old new moved d some p before past =
      omega (
        arith,
        left_after (cost_before cost location to) old new moved d some p,
        cost_before-here (get_or old 0 d) before,
        cost_before-past moved past,
      )
