-- Going on towards the least solution, one test of a bound after another.
use Rattle.std.specs.Prelude.{◌≡◌, ℕ, ◌<◌, ◌≤◌, List, length, slice_index_or, Option, None, IfSome}
use Rattle.alta_codec.specs.Inequality.{Inequality}
use Rattle.alta_solver.specs.Solution.{MeetsBound, IsAtLeast, IsSolution}

-- the bounds from an index on hold
abbrev pub HoldFrom : List (List ℕ) → List Inequality → ℕ → List ℕ → Type 0
HoldFrom lists bounds at x = (k : ℕ) (d : Inequality) → k < length bounds → at ≤ k
    → MeetsBound lists x (slice_index_or bounds k d)

-- What holds on the way: no place went back, and none passed a solution. The bounds from `at` on hold.
pub record IsSettling (lists : List (List ℕ)) (bounds : List Inequality) (old now : List ℕ) (at : ℕ) : Type 0 where
  pub forward : IsAtLeast old now
  pub sized : length now ≡ length old
  pub keeps : (x : List ℕ) → IsSolution lists bounds x → IsAtLeast old x → IsAtLeast now x
  pub hold : HoldFrom lists bounds at now

-- Bounds in front of `at` were tested: no place went back, and none passed a solution. There is an index from which on the
-- bounds hold, if they held from `at` on; or none, where there is no solution.
pub record IsTried (lists : List (List ℕ)) (bounds : List Inequality) (old new : List ℕ) (at : ℕ)
    (result : Option ℕ) : Type 0 where
  pub forward : IsAtLeast old new
  pub sized : length new ≡ length old
  pub keeps : (x : List ℕ) → IsSolution lists bounds x → IsAtLeast old x → IsAtLeast new x
  pub hold : IfSome result (λ next. HoldFrom lists bounds at old → HoldFrom lists bounds next new)
  pub within : IfSome result (λ next. next ≤ length bounds)
  pub none : result ≡ None → (x : List ℕ) → IsSolution lists bounds x → IsAtLeast old x → ⊥
