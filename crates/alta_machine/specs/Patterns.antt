-- The patterns of an atom: tests that cells have to meet, and bounds between their places.
-- A value is an atom whose pattern is none, and which matches by one of its ranges' patterns (`AtomMatches`): so all that is said of
-- an atom's one pattern stays as it is, and a value is one case more.
use Rattle.std.specs.Prelude.{◌≡◌, ◌⊎◌, ℕ, zero, suc, ◌+◌, ◌≤◌, ◌<◌, Bool, true, if◌then◌else◌, List, [], ◌∷◌, ◌++◌, length, map, get_or, Option, Some, None, MatchOption}
use Rattle.std.specs.List.{All}
use Rattle.alta_machine.specs.Cells.{cell_holds, cell_begins}
use Rattle.alta_machine.specs.declared.kinds.TheConstants.{TITLE_END}
use Rattle.alta_machine.specs.Shape.{Side, word, stem, Lone, words, prefix, name, value, Atom, lone, near}
use Rattle.alta_machine.specs.Words.{name_test}
use Rattle.alta_machine.specs.Covers.{cover_of}
use Rattle.alta_machine.specs.Terms.{term_bytes}
use Rattle.alta_machine.specs.declared.range.Range.{Range}
use Rattle.alta_machine.specs.declared.test.Test.{Test}
use Rattle.alta_machine.specs.declared.test.Test.TheVariants.{Is, Begins}

-- whether the terms of a cell meet a test
abbrev pub meets : Test → List (List ℕ) → Bool
meets (Is term) cell = cell_holds term cell
meets (Begins start) cell = cell_begins start cell

-- the first place, with `behind` added, is at most the second, with `ahead` added
pub record Bound : Type 0 where
  pub first : ℕ
  pub behind : ℕ
  pub second : ℕ
  pub ahead : ℕ

pub record Pattern : Type 0 where
  pub tests : List Test
  pub bounds : List Bound

-- the cell at this place meets the test
abbrev pub IsMet : List (List (List ℕ)) → Test → ℕ → Type 0
IsMet cells test place = (place < length cells) × (meets test (get_or cells place []) ≡ true)

-- one place per test, whose cell meets it
abbrev pub AreMet : List (List (List ℕ)) → List Test → List ℕ → Type 0
AreMet cells [] [] = Unit {0}
AreMet cells [] (place ∷ places) = ⊥
AreMet cells (test ∷ tests) [] = ⊥
AreMet cells (test ∷ tests) (place ∷ places) = IsMet cells test place × AreMet cells tests places

abbrev pub IsKept : List ℕ → Bound → Type 0
IsKept places bound = get_or places bound.first 0 + bound.behind ≤ get_or places bound.second 0 + bound.ahead

-- places that answer the pattern
pub record IsAnswer (cells : List (List (List ℕ))) (pattern : Pattern) (places : List ℕ) : Type 0 where
  pub met : AreMet cells pattern.tests places
  pub kept : All (IsKept places) pattern.bounds

-- some places answer the pattern
abbrev pub Satisfies : List (List (List ℕ)) → Pattern → Type 0
Satisfies cells pattern = (places : List ℕ) × IsAnswer cells pattern places

-- each word stands right before the next
abbrev pub neighbours : ℕ → List Test → List Bound
neighbours i [] = []
neighbours i (test ∷ []) = []
neighbours i (test ∷ next ∷ tests) =
    record { first = i; behind = 1; second = suc i; ahead = 0 }
    ∷ record { first = suc i; behind = 0; second = i; ahead = 1 } ∷ neighbours (suc i) (next ∷ tests)

abbrev pub phrase_pattern : List Test → Pattern
phrase_pattern tests = record { tests = tests; bounds = neighbours 0 tests }

-- two places at most so far apart
abbrev pub near_pattern : Test → ℕ → Test → Pattern
near_pattern left distance right = record {
  tests = left ∷ right ∷ [];
  bounds = record { first = 0; behind = 0; second = 1; ahead = distance }
      ∷ record { first = 1; behind = 0; second = 0; ahead = distance } ∷ [];
}

-- the cell where a title ends
abbrev pub title_end : Test
title_end = Is (TITLE_END ∷ [])

-- the first `count` places stand before the place `end`
abbrev pub before_end : ℕ → ℕ → List Bound
before_end end zero = []
before_end end (suc count) = before_end end count ++ record { first = count; behind = 1; second = end; ahead = 0 } ∷ []

-- the same inside a title
abbrev pub in_title : Pattern → Pattern
in_title pattern = record {
  tests = pattern.tests ++ title_end ∷ [];
  bounds = pattern.bounds ++ before_end (length pattern.tests) (length pattern.tests);
}

abbrev pub titled : Bool → Pattern → Pattern
titled title pattern = if title then in_title pattern else pattern

abbrev pub test_of : Side → Test
test_of (word text test) = test
test_of (stem text test) = test

-- the pattern of what one token asks for; a value has none of its own, but one for each range
abbrev pub lone_pattern : Lone → Pattern
lone_pattern (words title text tests) = titled title (phrase_pattern tests)
lone_pattern (prefix title text test) = titled title (phrase_pattern (test ∷ []))
lone_pattern (name text) = phrase_pattern (name_test text ∷ [])
lone_pattern (value low high) = record { tests = []; bounds = [] }

abbrev pub pattern_of : Atom → Pattern
pattern_of (lone a) = lone_pattern a
pattern_of (near left distance right) = near_pattern (test_of left) distance (test_of right)

-- the test of a range: its term
abbrev pub range_test : Range → Test
range_test range = Is (term_bytes range.level range.prefix)

-- the pattern of a range
abbrev pub range_pattern : Range → Pattern
range_pattern range = phrase_pattern (range_test range ∷ [])

-- the patterns of the numbers from one to another: one for each range that covers them
abbrev pub value_patterns : ℕ → ℕ → List Pattern
value_patterns low high = map range_pattern (cover_of low high)

-- the cells satisfy one of the patterns
abbrev pub SatisfiesOne : List (List (List ℕ)) → List Pattern → Type 0
SatisfiesOne cells [] = ⊥
SatisfiesOne cells (pattern ∷ patterns) = Satisfies cells pattern ⊎ SatisfiesOne cells patterns

-- the numbers of a value
abbrev pub lone_numbers : Lone → Option (ℕ × ℕ)
lone_numbers (words title text tests) = None
lone_numbers (prefix title text test) = None
lone_numbers (name text) = None
lone_numbers (value low high) = Some (low, high)

abbrev pub numbers_in : Atom → Option (ℕ × ℕ)
numbers_in (lone a) = lone_numbers a
numbers_in (near left distance right) = None

-- the cells match a value where they satisfy one of its patterns, and any other atom where they satisfy its pattern
abbrev pub AtomMatches : List (List (List ℕ)) → Atom → Type 0
AtomMatches cells a = MatchOption (numbers_in a) (Satisfies cells (pattern_of a))
    (λ numbers. SatisfiesOne cells (value_patterns numbers.0 numbers.1))
