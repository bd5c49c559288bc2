-- Queries that ask for folded words, names and the ends of titles, and neither for a word as it was written nor for a number's range.
use Rattle.std.specs.Prelude.{◌≡◌, ℕ, false, List, map, Option, Some, None}
use Rattle.std.specs.List.{All}
use Rattle.alta_machine.specs.declared.kinds.TheConstants.{WRITTEN}
use Rattle.alta_machine.specs.Patterns.{pattern_of, numbers_in, range_test}
use Rattle.alta_machine.specs.Covers.{cover_of}
use Rattle.alta_machine.specs.Shape.{Shape, Shapes, atom, all, any, negated, none, more}
use Rattle.alta_machine.specs.declared.test.Test.{Test}
use Rattle.alta_machine.specs.declared.test.Test.TheVariants.{Is, Begins}
use Rattle.alta_machine.specs.Plain.{is_kind}

-- the tests of an atom: those of its pattern, and those of the ranges of a value
abbrev pub tests_among : List Test → Option (ℕ × ℕ) → List Test
tests_among tests None = tests
tests_among tests (Some numbers) = map range_test (cover_of numbers.0 numbers.1)

-- each test of the query is one of these
abbrev mutual
  pub HasTests : (Test → Type 0) → Shape → Type 0
  HasTests P (atom a) = All P (tests_among (pattern_of a).tests (numbers_in a))
  HasTests P (all qs) = HaveTests P qs
  HasTests P (any qs) = HaveTests P qs
  HasTests P (negated q) = HasTests P q

  pub HaveTests : (Test → Type 0) → Shapes → Type 0
  HaveTests P none = Unit {0}
  HaveTests P (more q qs) = HasTests P q × HaveTests P qs

-- the test is not one of a word as it was written, or of a range, whose terms are of one kind
abbrev pub IsForFolding : Test → Type 0
IsForFolding (Is term) = is_kind WRITTEN term ≡ false
IsForFolding (Begins start) = is_kind WRITTEN start ≡ false

-- the query has no such test
abbrev pub AsksForFoldings : Shape → Type 0
AsksForFoldings q = HasTests IsForFolding q
