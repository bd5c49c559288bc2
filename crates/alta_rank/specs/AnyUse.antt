-- Queries whose answers are the documents with a score: they ask for one of their uses.
use Rattle.std.specs.Prelude.{Bool, true, false, ◌&&◌, List, [], ◌∷◌}
use Rattle.alta_machine.specs.Shape.{Lone, words, prefix, name, value, Atom, lone, near, Shape, Shapes, atom, all, any, negated, none, more}
use Rattle.alta_machine.specs.declared.test.Test.{Test}

abbrev pub is_one : List Test → Bool
is_one [] = false
is_one (t ∷ []) = true
is_one (t ∷ s ∷ ts) = false

-- whether what a token asks for has one test, by which it is scored
abbrev pub lone_use : Lone → Bool
lone_use (words title text tests) = is_one tests
lone_use (prefix title text test) = true
lone_use (name text) = true
lone_use (value low high) = false

abbrev pub atom_use : Atom → Bool
atom_use (lone a) = lone_use a
atom_use (near left distance right) = false

abbrev pub shape_use : Shape → Bool
shape_use (atom a) = atom_use a
shape_use (all qs) = false
shape_use (any qs) = false
shape_use (negated q) = false

abbrev pub each_use : Shapes → Bool
each_use none = true
each_use (more q qs) = shape_use q && each_use qs

-- whether a query is such an atom, or an or of such atoms
abbrev pub asks_any_use : Shape → Bool
asks_any_use (atom a) = atom_use a
asks_any_use (all qs) = false
asks_any_use (any qs) = each_use qs
asks_any_use (negated q) = false
