-- The canonical spelling, as tokens.
use Rattle.std.specs.Prelude.{List, [], ◌∷◌, ◌++◌, Bool, true, false}
use Rattle.alta_machine.specs.Shape.{Side, word, stem, Lone, words, prefix, Atom, lone, near, Shape, Shapes, atom, all, any, negated, none, more}
use Rattle.alta_machine.specs.Token.{Token, open_paren, close_paren, or_word, not_word, near_word, operand}

abbrev pub is_any : Shape → Bool
is_any (atom a) = false
is_any (all qs) = false
is_any (any qs) = true
is_any (negated q) = false

abbrev pub is_compound : Shape → Bool
is_compound (atom a) = false
is_compound (all qs) = true
is_compound (any qs) = true
is_compound (negated q) = false

abbrev pub parens_if : Bool → List Token → List Token
parens_if true ts = open_paren ∷ (ts ++ close_paren ∷ [])
parens_if false ts = ts

abbrev pub of_side : Side → Lone
of_side (word text test) = words false text (test ∷ [])
of_side (stem text test) = prefix false text test

abbrev pub atom_tokens : Atom → List Token
atom_tokens (lone a) = operand a ∷ []
atom_tokens (near l k r) = operand (of_side l) ∷ near_word k ∷ operand (of_side r) ∷ []

-- what stands before a member of an or
abbrev pub or_between : Bool → List Token
or_between true = []
or_between false = or_word ∷ []

-- without parentheses round the whole
abbrev mutual
  pub canon : Shape → List Token
  canon (atom a) = atom_tokens a
  canon (all qs) = canon_all qs
  canon (any qs) = canon_any qs
  canon (negated q) = not_word ∷ parens_if (is_compound q) (canon q)

  -- members that are And or Or stand in parentheses
  pub canon_all : Shapes → List Token
  canon_all none = []
  canon_all (more q qs) = parens_if (is_compound q) (canon q) ++ canon_all qs

  -- members that are Or stand in parentheses
  pub canon_any : Shapes → List Token
  canon_any none = []
  canon_any (more q qs) = parens_if (is_any q) (canon q) ++ canon_behind_or qs

  pub canon_behind_or : Shapes → List Token
  canon_behind_or none = []
  canon_behind_or (more q qs) = or_word ∷ (parens_if (is_any q) (canon q) ++ canon_behind_or qs)
