-- Bounds between variables: which they name, and how the first stand in pairs.
use Rattle.std.specs.Prelude.{◌≡◌, ◌≢◌, ℕ, ◌+◌, ◌*◌, ◌<◌, ◌≤◌, List, length, slice_index_or, All}
use Rattle.alta_codec.specs.Inequality.{Inequality, upper, lower}

-- the bound is between two of n variables, and the parts of its constant are at most a million
pub record IsBetween (n : ℕ) (b : Inequality) : Type 0 where
  pub i : b.i < n
  pub j : b.j < n
  pub plus : b.plus ≤ 1000000
  pub minus : b.minus ≤ 1000000

-- each bound names two of n variables
abbrev pub IsNamed : ℕ → List Inequality → Type 0
IsNamed n bounds = All (λ b. (b.i < n) × (b.j < n)) bounds

-- an index behind all bounds in which variable i is bounded
pub record IsBehindBounds (i : ℕ) (bounds : List Inequality) (at : ℕ) : Type 0 where
  pub within : at ≤ length bounds
  pub free : (k : ℕ) (d : Inequality) → at ≤ k → k < length bounds → (slice_index_or bounds k d).i ≢ i

-- the two bounds of variable m + 1 stand at 2 * m and behind it
pub record IsPair (bounds : List Inequality) (m : ℕ) : Type 0 where
  pub within : 2 * m + 1 < length bounds
  pub above : (d : Inequality) → slice_index_or bounds (2 * m) d ≡ upper (m + 1)
  pub below : (d : Inequality) → slice_index_or bounds (2 * m + 1) d ≡ lower (m + 1)

-- the first bounds are in pairs the two of variable 1, the two of variable 2, and so on
pub record IsPaired (pairs : ℕ) (bounds : List Inequality) : Type 0 where
  pub each : (m : ℕ) → m < pairs → IsPair bounds m
