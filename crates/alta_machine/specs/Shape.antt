-- What a query says, without where it lies in memory.
use Rattle.std.specs.Prelude.{ℕ, List, [], ◌∷◌, Bool}
use Rattle.alta_machine.specs.declared.test.Test.{Test}

-- a side of a NEAR: its text and its test
pub data Side : Type 0 where
  word : List ℕ → Test → Side
  stem : List ℕ → Test → Side

-- what one token asks for, with its tests; the Bool says that it stands in the title
pub data Lone : Type 0 where
  words : Bool → List ℕ → List Test → Lone
  prefix : Bool → List ℕ → Test → Lone
  name : List ℕ → Lone
  value : (low high : ℕ) → Lone

-- what a query asks for at a place
pub data Atom : Type 0 where
  lone : Lone → Atom
  near : Side → ℕ → Side → Atom

mutual
  pub data Shape : Type 0 where
    atom : Atom → Shape
    all : Shapes → Shape
    any : Shapes → Shape
    negated : Shape → Shape

  pub data Shapes : Type 0 where
    none : Shapes
    more : Shape → Shapes → Shapes

abbrev pub shapes_of : List Shape → Shapes
shapes_of [] = none
shapes_of (q ∷ qs) = more q (shapes_of qs)

-- a list of one is its member
abbrev pub all_of : List Shape → Shape
all_of [] = all none
all_of (q ∷ []) = q
all_of (q ∷ r ∷ qs) = all (shapes_of (q ∷ r ∷ qs))

abbrev pub any_of : List Shape → Shape
any_of [] = any none
any_of (q ∷ []) = q
any_of (q ∷ r ∷ qs) = any (shapes_of (q ∷ r ∷ qs))
