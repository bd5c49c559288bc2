-- What a move of a reader of one list does.
use Rattle.std.specs.Prelude.{◌≡◌, ℕ, ◌+◌, ◌<◌, ◌≤◌, List}
use Rattle.alta_codec.specs.Rising.{count_from}

-- A sound reader of the same list stands at a place behind where it stood. What is left of it fell, and at least by the steps, of
-- which the move added one.
pub record Leaps {R : Type 0} (Sound : R → Type 0) (list : R → List ℕ) (location : R → ℕ) (old new : R)
    (place before after : ℕ) : Type 0 where
  pub sound : Sound new
  pub same_list : list new ≡ list old
  pub stands : location new ≡ place
  pub falls : count_from (list new) (location new) < count_from (list old) (location old)
  pub steps : after + count_from (list new) (location new) ≤ before + count_from (list old) (location old)
  pub cost : after ≤ before + 1
  pub one : after ≡ before + 1
