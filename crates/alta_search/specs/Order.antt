-- The tests of a plan, each once, and their uses.
use Rattle.std.specs.Prelude.{◌≡◌, ◌≢◌, ℕ, ◌+◌, ◌<◌, ◌≤◌, max, List, [], ◌∷◌, map, length, All, AllPairs, slice_index_or}
use Rattle.alta_compile.specs.Space.{document_end}
use Rattle.alta_machine.specs.declared.test.Test.{Test}

-- tests, and the index of the test of each use
pub record Order : Type 0 where
  pub tests : List Test
  pub uses : List ℕ

-- the test of each use
abbrev pub used : Order → List Test
used order = map (λ i. slice_index_or order.tests i document_end) order.uses

-- From `next` on, an index is one that was there or the next one, and `last` are there in the end.
abbrev pub ComeInOrder : ℕ → List ℕ → ℕ → Type 0
ComeInOrder next [] last = next ≡ last
ComeInOrder next (i ∷ is) last = (i ≤ next) × ComeInOrder (max next (i + 1)) is last

-- each test stands once, in the order of their first uses
pub record IsOrder (order : Order) : Type 0 where
  pub once : AllPairs (λ a b. a ≢ b) order.tests
  pub inside : All (λ i. i < length order.tests) order.uses
  pub first : ComeInOrder 0 order.uses (length order.tests)
