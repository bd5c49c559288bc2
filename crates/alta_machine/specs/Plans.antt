-- What a plan says, without where it lies in memory.
use Rattle.std.specs.Prelude.{List, [], ◌∷◌}
use Rattle.alta_machine.specs.declared.test.Test.{Test}
use Rattle.alta_codec.specs.Inequality.{Inequality}

-- the tests of all variables but the first, and the bounds between the variables
pub record FoundTree : Type 0 where
  pub tests : List Test
  pub bounds : List Inequality

mutual
  pub data Tree : Type 0 where
    found : FoundTree → Tree
    all_of : Trees → Tree
    any_of : Trees → Tree
    without : Tree → Tree

  pub data Trees : Type 0 where
    no_more : Trees
    also : Tree → Trees → Trees

abbrev pub trees_of : List Tree → Trees
trees_of [] = no_more
trees_of (t ∷ ts) = also t (trees_of ts)
