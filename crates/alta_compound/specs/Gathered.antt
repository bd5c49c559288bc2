-- The elements of several lists together, each as often as they have it.
use Rattle.std.specs.Prelude.{ℕ, cond, nat_le, List, [], ◌∷◌}
use Rattle.std.specs.List.{concat}

-- a number before the first that is not below it
unfoldable pub insert_before : ℕ → List ℕ → List ℕ
insert_before x [] = x ∷ []
insert_before x (y ∷ ys) = cond (nat_le x y) (x ∷ y ∷ ys) (y ∷ insert_before x ys)

-- the elements from the least on, each as often as before
unfoldable pub sorted : List ℕ → List ℕ
sorted [] = []
sorted (x ∷ xs) = insert_before x (sorted xs)

-- the elements of all lists, from the least on
abbrev pub gathered : List (List ℕ) → List ℕ
gathered lists = sorted (concat lists)
