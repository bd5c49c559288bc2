-- The union of rising lists, and the least of several places.
use Rattle.std.specs.Prelude.{◌≡◌, ℕ, map, All, min, cond, nat_lt, List, [], ◌∷◌}
use Rattle.alta_codec.specs.declared.location.TheConstants.{TOP}
use Rattle.alta_codec.specs.Rising.{first_from}

-- a number in its place in a rising list, which keeps one of each
unfoldable pub put : ℕ → List ℕ → List ℕ
put x [] = x ∷ []
put x (y ∷ ys) = cond (nat_lt x y) (x ∷ y ∷ ys) (cond (nat_lt y x) (y ∷ put x ys) (y ∷ ys))

-- the elements of both lists, in order, each once
unfoldable pub union : List ℕ → List ℕ → List ℕ
union [] ys = ys
union (x ∷ xs) ys = put x (union xs ys)

-- the elements of all lists
unfoldable pub union_of : List (List ℕ) → List ℕ
union_of [] = []
union_of (l ∷ ls) = union l (union_of ls)

-- the least of the places, TOP where there is none
abbrev pub least_of : List ℕ → ℕ
least_of [] = TOP
least_of (x ∷ xs) = min x (least_of xs)

-- Each reader stands at the first element of its list from a place on, and the place is the least of theirs.
pub record IsInStep {R : Type 0} (list : R → List ℕ) (location : R → ℕ) (readers : List R) (at : ℕ) : Type 0 where
  pub each : All (λ r. location r ≡ first_from (list r) at) readers
  pub least : at ≡ least_of (map location readers)
