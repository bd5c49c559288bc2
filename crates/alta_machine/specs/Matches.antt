-- Which cells a query matches.
use Rattle.std.specs.Prelude.{◌⊎◌, ℕ, ◌+◌, ◌^◌, ◌≤◌, ◌<◌, List, MatchOption}
use Rattle.std.specs.Str.{IsUtf8}
use Rattle.alta_machine.specs.Shape.{Atom, Shape, Shapes, atom, all, any, negated, none, more}
use Rattle.alta_machine.specs.Patterns.{AtomMatches, numbers_in}
use Rattle.alta_machine.specs.Token.{tokens_of}
use Rattle.alta_machine.specs.Spots.{spots}
use Rattle.alta_machine.specs.Grammar.{ReadsQuery}

-- the cells of a document match: an atom by its pattern, a value by one of its patterns, the others by truth
abbrev mutual
  pub Matches : List (List (List ℕ)) → Shape → Type 0
  Matches cells (atom a) = AtomMatches cells a
  Matches cells (all qs) = AllMatch cells qs
  Matches cells (any qs) = AnyMatches cells qs
  Matches cells (negated q) = ¬ (Matches cells q)

  pub AllMatch : List (List (List ℕ)) → Shapes → Type 0
  AllMatch cells none = Unit {0}
  AllMatch cells (more q qs) = Matches cells q × AllMatch cells qs

  pub AnyMatches : List (List (List ℕ)) → Shapes → Type 0
  AnyMatches cells none = ⊥
  AnyMatches cells (more q qs) = Matches cells q ⊎ AnyMatches cells qs

-- some UTF-8 text is read as this query
abbrev pub IsWellFormed : Shape → Type 0
IsWellFormed q = (text : List ℕ) × IsUtf8 text × ReadsQuery (tokens_of (spots text)) q

abbrev pub count_of : Shapes → ℕ
count_of none = 0
count_of (more q qs) = 1 + count_of qs

-- each And and Or has two members at least
abbrev mutual
  pub HasMembers : Shape → Type 0
  HasMembers (atom a) = Unit {0}
  HasMembers (all qs) = (2 ≤ count_of qs) × HaveMembers qs
  HasMembers (any qs) = (2 ≤ count_of qs) × HaveMembers qs
  HasMembers (negated q) = HasMembers q

  pub HaveMembers : Shapes → Type 0
  HaveMembers none = Unit {0}
  HaveMembers (more q qs) = HasMembers q × HaveMembers qs

-- the numbers of an atom that is a value have 32 bits, and the second is no lower
abbrev pub IsOrderedAtom : Atom → Type 0
IsOrderedAtom a = MatchOption (numbers_in a) (Unit {0}) (λ numbers. (numbers.0 ≤ numbers.1) × (numbers.1 < 2 ^ 32))

-- those of each value of the query
abbrev mutual
  pub HasOrderedValues : Shape → Type 0
  HasOrderedValues (atom a) = IsOrderedAtom a
  HasOrderedValues (all qs) = HaveOrderedValues qs
  HasOrderedValues (any qs) = HaveOrderedValues qs
  HasOrderedValues (negated q) = HasOrderedValues q

  pub HaveOrderedValues : Shapes → Type 0
  HaveOrderedValues none = Unit {0}
  HaveOrderedValues (more q qs) = HasOrderedValues q × HaveOrderedValues qs
