-- The canonical spelling, as bytes.
use Rattle.std.specs.Prelude.{ℕ, List, [], ◌∷◌, ◌++◌, Bool, true, false, codes}
use Rattle.std.specs.Fmt.{decimal}
use Rattle.alta_machine.specs.Shape.{Lone, words, prefix, name, value, Shape}
use Rattle.alta_machine.specs.Token.{Token, open_paren, close_paren, and_word, or_word, not_word, near_word, operand, faulty}
use Rattle.alta_machine.specs.Canon.{canon}

abbrev pub quoted : List ℕ → List ℕ
quoted text = codes "\"" ++ text ++ codes "\""

abbrev pub title_text : Bool → List ℕ
title_text true = codes "title:"
title_text false = []

abbrev pub spelled_operand : Lone → List ℕ
spelled_operand (words title text tests) = title_text title ++ quoted text
spelled_operand (prefix title stem test) = title_text title ++ (stem ++ codes "*")
spelled_operand (name text) = codes "name:" ++ text
spelled_operand (value low high) = codes "value:" ++ decimal low ++ codes ".." ++ decimal high

-- A token as it is written; no query has a faulty one.
abbrev pub spelled : Token → List ℕ
spelled open_paren = codes "("
spelled close_paren = codes ")"
spelled and_word = codes "AND"
spelled or_word = codes "OR"
spelled not_word = codes "NOT"
spelled (near_word k) = codes "NEAR/" ++ decimal k
spelled (operand a) = spelled_operand a
spelled (faulty c) = []

-- a space behind what was written
abbrev pub spaced : List ℕ → List ℕ
spaced [] = []
spaced (b ∷ bs) = (b ∷ bs) ++ 32 ∷ []

-- tokens behind what was written, with one space between them
abbrev pub with_tokens : List ℕ → List Token → List ℕ
with_tokens out [] = out
with_tokens out (t ∷ ts) = with_tokens (spaced out ++ spelled t) ts

unfoldable pub canonical : Shape → List ℕ
canonical q = with_tokens [] (canon q)
