-- How many texts of a list went out whole.
use Rattle.std.specs.Prelude.{◌≡◌, ◌<◌, ◌≤◌, ℕ, List, [], ◌∷◌, ◌++◌, length, take}
use Rattle.std.specs.List.{concat}

abbrev pub IsPrefix : List ℕ → List ℕ → Type 0
IsPrefix front bytes = (more : List ℕ) × (bytes ≡ front ++ more)

-- k is the greatest number such that the first k texts, joined, begin the bytes given
pub record IsAcked (k : ℕ) (texts : List (List ℕ)) (given : List ℕ) : Type 0 where
  pub within : k ≤ length texts
  pub begins : IsPrefix (concat (take k texts)) given
  pub greatest : (j : ℕ) → j ≤ length texts → IsPrefix (concat (take j texts)) given → j ≤ k

-- less than the first text, and nothing where there is none
abbrev pub IsPartOfFirst : List (List ℕ) → List ℕ → Type 0
IsPartOfFirst [] part = part ≡ []
IsPartOfFirst (text ∷ texts) part = (left : List ℕ) × (text ≡ part ++ left) × (0 < length left)
