-- Rising lists of locations: the first at or above a place, and the last below one.
use Rattle.std.specs.Prelude.{◌≡◌, ◌⊎◌, ℕ, ◌+◌, ◌<◌, ◌≤◌, min, max, cond, nat_le, nat_lt, List, [], ◌∷◌, length, slice_index, Contains}
use Rattle.alta_codec.specs.declared.location.TheConstants.{TOP}

-- the list rises strictly, from 1 to below TOP
pub record IsRising (xs : List ℕ) : Type 0 where
  pub rising : (i j : ℕ) → i < j → j < length xs → slice_index xs i < slice_index xs j
  pub positive : (i : ℕ) → i < length xs → 0 < slice_index xs i
  pub below : (i : ℕ) → i < length xs → slice_index xs i < TOP

-- Of the indexes from one up to another, the first whose element is at or above a place, that other one where there is none. All
-- elements before it are below the place.
pub record IsFirstFrom (xs : List ℕ) (from until to index : ℕ) : Type 0 where
  pub after : from ≤ index
  pub within : index ≤ until
  pub before : (k : ℕ) → k < index → slice_index xs k < to
  pub found : index < until → to ≤ slice_index xs index

-- the place is an element or TOP
abbrev pub IsPlace : List ℕ → ℕ → Type 0
IsPlace xs x = Contains xs x ⊎ (x ≡ TOP)

-- the least element at or above the place, TOP where there is none
unfoldable pub first_from : List ℕ → ℕ → ℕ
first_from [] x = TOP
first_from (y ∷ ys) x = cond (nat_le x y) (min y (first_from ys x)) (first_from ys x)

-- the greatest element below the place, 0 where there is none
unfoldable pub pred_of : List ℕ → ℕ → ℕ
pred_of [] x = 0
pred_of (y ∷ ys) x = cond (nat_lt y x) (max y (pred_of ys x)) (pred_of ys x)

-- how many elements are at or above the place, each as often as the list has it
unfoldable pub count_from : List ℕ → ℕ → ℕ
count_from [] x = 0
count_from (y ∷ ys) x = cond (nat_le x y) (1 + count_from ys x) (count_from ys x)
