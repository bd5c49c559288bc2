-- The uses of a query's tests.
use Rattle.std.specs.Prelude.{Bool, false, List, [], ◌∷◌, ◌++◌, map}
use Rattle.alta_machine.specs.Patterns.{test_of}
use Rattle.alta_machine.specs.Shape.{words, prefix, name, value, Atom, lone, near, Shape, Shapes, atom, all, any, negated, none, more}
use Rattle.alta_machine.specs.Words.{name_test}
use Rattle.alta_machine.specs.declared.test.Test.{Test}
use Rattle.alta_machine.specs.declared.usage.Use.{Use}

abbrev pub use_of : Bool → Test → Use
use_of title test = record { title = title; test = test }

-- each test of an atom, with whether the atom asks for it in the title; none of a value
abbrev pub atom_uses : Atom → List Use
atom_uses (lone (words title text tests)) = map (use_of title) tests
atom_uses (lone (prefix title text test)) = use_of title test ∷ []
atom_uses (lone (name text)) = use_of false (name_test text) ∷ []
atom_uses (lone (value low high)) = []
atom_uses (near left distance right) = use_of false (test_of left) ∷ use_of false (test_of right) ∷ []

-- the uses of all atoms that stand under no NOT, in order
abbrev mutual
  pub uses_of : Shape → List Use
  uses_of (atom a) = atom_uses a
  uses_of (all qs) = uses_in qs
  uses_of (any qs) = uses_in qs
  uses_of (negated q) = []

  pub uses_in : Shapes → List Use
  uses_in none = []
  uses_in (more q qs) = uses_of q ++ uses_in qs
