-- What readers count in a range, where the last title ends at a place.
use Rattle.std.specs.Prelude.{ℕ, ◌<◌, ◌≤◌, Bool, ◌&&◌, nat_lt, nat_le, List, filter, drop, sum_by, All}
use Rattle.std.specs.List.{zip}
use Rattle.alta_codec.specs.Rising.{pred_of}
use Rattle.alta_machine.specs.Scores.{weight}
use Rattle.alta_machine.specs.declared.usage.Use.{Use}

-- what the locations of a list count from `first` to `end`
unfoldable pub counted : Bool → ℕ → ℕ → List ℕ → ℕ → ℕ
counted title last end list first =
    sum_by (λ at. weight title (nat_lt at last)) (filter (λ at. nat_le first at && nat_le at end) list)

-- what those of all lists count
unfoldable pub counted_each : List Use → List (List ℕ) → ℕ → ℕ → ℕ → ℕ
counted_each uses lists last end first = sum_by (λ (u, list). counted u.title last end list first) (zip uses lists)

-- No reader has passed a location above `end`, and those from index i on none at or above `first`.
pub record AreBehind {R : Type 0} (list : R → List ℕ) (location : R → ℕ) (readers : List R)
    (i first end : ℕ) : Type 0 where
  pub all : All (λ r. pred_of (list r) (location r) ≤ end) readers
  pub rest : All (λ r. pred_of (list r) (location r) < first) (drop i readers)
