-- Several patterns as one.
use Rattle.std.specs.Prelude.{ℕ, ◌+◌, List, [], ◌∷◌, ◌++◌, length, map}
use Rattle.alta_machine.specs.Patterns.{Bound, Pattern, Satisfies}

-- the bound, of places that stand behind so many others
abbrev pub shifted : ℕ → Bound → Bound
shifted n b = record { first = n + b.first; behind = b.behind; second = n + b.second; ahead = b.ahead }

-- the tests of all patterns, one behind the other, and the bounds of each between the places of its own tests
abbrev pub joint_pattern : List Pattern → Pattern
joint_pattern [] = record { tests = []; bounds = [] }
joint_pattern (p ∷ ps) = record {
  tests = p.tests ++ (joint_pattern ps).tests;
  bounds = p.bounds ++ map (shifted (length p.tests)) (joint_pattern ps).bounds;
}

-- the cells satisfy each of the patterns
abbrev pub SatisfiesEach : List (List (List ℕ)) → List Pattern → Type 0
SatisfiesEach cells [] = Unit {0}
SatisfiesEach cells (p ∷ ps) = Satisfies cells p × SatisfiesEach cells ps
