-- The tokens of a query's text, with their places.
use Rattle.std.specs.Prelude.{ℕ, ◌+◌, List, [], ◌∷◌, length, map, true, false, Option, Some, None}
use Rattle.alta_machine.specs.Shape.{Lone, words, prefix, name, value, Side, word, stem}
use Rattle.alta_machine.specs.declared.cause.Cause.{Cause}

pub data Token : Type 0 where
  open_paren : Token
  close_paren : Token
  and_word : Token
  or_word : Token
  not_word : Token
  near_word : ℕ → Token
  operand : Lone → Token
  faulty : Cause → Token

-- a token and the place of its first byte
pub data Spot : Type 0 where
  at : ℕ → Token → Spot

abbrev pub what : Spot → Token
what (at p t) = t

abbrev pub tokens_of : List Spot → List Token
tokens_of = map what

-- what may stand beside a NEAR: one word or a prefix, not of the title
abbrev pub side_of : Lone → Option Side
side_of (words true text tests) = None
side_of (words false text []) = None
side_of (words false text (test ∷ [])) = Some (word text test)
side_of (words false text (test ∷ next ∷ tests)) = None
side_of (prefix true text test) = None
side_of (prefix false text test) = Some (stem text test)
side_of (name text) = None
side_of (value low high) = None

-- how many words an operand counts; words have one test each
abbrev pub atom_weight : Lone → ℕ
atom_weight (words title text tests) = length tests
atom_weight (prefix title text test) = 1
atom_weight (name text) = 1
atom_weight (value low high) = 1

abbrev pub weight : Token → ℕ
weight open_paren = 0
weight close_paren = 0
weight and_word = 0
weight or_word = 0
weight not_word = 0
weight (near_word k) = 0
weight (operand a) = atom_weight a
weight (faulty c) = 0

abbrev pub total_weight : List Token → ℕ
total_weight [] = 0
total_weight (t ∷ ts) = weight t + total_weight ts
