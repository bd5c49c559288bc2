-- What moves keep of the readers, and what a test of bounds answers.
use Rattle.std.specs.Prelude.{◌≡◌, ◌⊎◌, ℕ, ◌+◌, ◌<◌, ◌≤◌, List, map, length, All, sum_by, Option, IfSome}
use Rattle.alta_codec.specs.Inequality.{Inequality}
use Rattle.alta_solver.specs.Bounds.{IsNamed}
use Rattle.alta_solver.specs.Settling.{IsTried}

-- sound readers, which the bounds name
pub record AreReady {R : Type 0} (Sound : R → Type 0) (bounds : List Inequality) (readers : List R) : Type 0 where
  pub sound : All Sound readers
  pub named : IsNamed (length readers) bounds

module _ {R : Type 0} (Sound : R → Type 0) (list all : R → List ℕ) (location left : R → ℕ) where
  -- Each reader is sound and reads what it read, and such is said of their places. What is left of all did not grow, and it fell
  -- at least by the steps.
  pub record AreKept (Placed : List ℕ → Type 0) (old new : List R) (before after : ℕ) : Type 0 where
    pub sound : All Sound new
    pub lists : map list new ≡ map list old
    pub alls : map all new ≡ map all old
    pub placed : Placed (map location new)
    pub keeps : sum_by left new ≤ sum_by left old
    pub steps : after + sum_by left new ≤ before + sum_by left old

  -- Bounds in front of `at` were tested, and the readers moved by it. Where it goes on, it goes on in front of `at`, or what
  -- is left fell.
  pub record IsTested (bounds : List Inequality) (at : ℕ) (result : Option ℕ) (old new : List R)
      (before after : ℕ) : Type 0 where
    pub kept : AreKept (λ places. IsTried (map list old) bounds (map location old) places at result)
        old new before after
    pub falls : IfSome result (λ next. (next < at) ⊎ (sum_by left new < sum_by left old))
