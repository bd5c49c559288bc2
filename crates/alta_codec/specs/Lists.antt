-- Lists that grow, and the greatest of a list's numbers.
use Rattle.std.specs.Prelude.{◌≡◌, ℕ, max, List, [], ◌∷◌, ◌++◌, Result, OnOk, OnErr}

-- on Ok the item stands behind the others, on Err all is as it was
pub record Pushes {A T E : Type 0} (item : A) (old new : List A) (result : Result T E) : Type 0 where
  pub pushed : OnOk result (new ≡ old ++ item ∷ [])
  pub kept : OnErr result (new ≡ old)

-- the greatest of the numbers, 0 where there is none
abbrev pub greatest_of : List ℕ → ℕ
greatest_of [] = 0
greatest_of (x ∷ xs) = max x (greatest_of xs)
