-- Queries that ask for words and against words, and for nothing else.
use Rattle.std.specs.Prelude.{ℕ, Bool, true, false, ◌&&◌, ◌||◌, cond, is_some, List, [], ◌∷◌, ◌++◌, Option, Some, None}
use Rattle.alta_machine.specs.Shape.{Lone, words, prefix, name, value, Atom, lone, near, Shape, Shapes, atom, all, any, negated, none, more}
use Rattle.alta_machine.specs.declared.test.Test.{Test}
use Rattle.alta_machine.specs.declared.test.Test.TheVariants.{Is, Begins}
use Rattle.alta_compile.specs.declared.asked.Conjunction.{Conjunction}

-- the only test of a list, where it asks for one term
abbrev pub only : List Test → Option Test
only [] = None
only (Is term ∷ []) = Some (Is term)
only (Begins start ∷ []) = None
only (t ∷ s ∷ ts) = None

-- the word of a text of one word without `title:`
abbrev pub lone_word : Lone → Option Test
lone_word (words true text tests) = None
lone_word (words false text tests) = only tests
lone_word (prefix title text test) = None
lone_word (name text) = None
lone_word (value low high) = None

abbrev pub atom_word : Atom → Option Test
atom_word (lone l) = lone_word l
atom_word (near left distance right) = None

-- the word that a query is
abbrev pub word_in : Shape → Option Test
word_in (atom a) = atom_word a
word_in (all qs) = None
word_in (any qs) = None
word_in (negated q) = None

-- the word that a query is a NOT of
abbrev pub word_against : Shape → Option Test
word_against (atom a) = None
word_against (all qs) = None
word_against (any qs) = None
word_against (negated q) = word_in q

abbrev pub listed : Option Test → List Test
listed None = []
listed (Some t) = t ∷ []

-- the words of the members that are words, in order
abbrev pub words_in : Shapes → List Test
words_in none = []
words_in (more q qs) = listed (word_in q) ++ words_in qs

-- the words of the members that are a NOT of a word, in order
abbrev pub words_against : Shapes → List Test
words_against none = []
words_against (more q qs) = listed (word_against q) ++ words_against qs

-- whether each member is a word or a NOT of a word
abbrev pub are_words : Shapes → Bool
are_words none = true
are_words (more q qs) = (is_some (word_in q) || is_some (word_against q)) && are_words qs

abbrev pub is_some_word : List Test → Bool
is_some_word [] = false
is_some_word (t ∷ ts) = true

-- the words of the members and the words against them, where each member is one or the other, and one is a word
abbrev pub conjunction_in : Shapes → Option Conjunction
conjunction_in qs = cond (are_words qs && is_some_word (words_in qs))
    (Some (record { words = words_in qs; negated = words_against qs })) None

-- a word is the conjunction of itself
abbrev pub conjunction_of : Shape → Option Conjunction
conjunction_of (atom a) = conjunction_in (more (atom a) none)
conjunction_of (all qs) = conjunction_in qs
conjunction_of (any qs) = None
conjunction_of (negated q) = None

-- whether each member is a word
abbrev pub each_word : Shapes → Bool
each_word none = true
each_word (more q qs) = is_some (word_in q) && each_word qs

-- whether a query is an or of words
abbrev pub is_either : Shape → Bool
is_either (atom a) = false
is_either (all qs) = false
is_either (any qs) = each_word qs
is_either (negated q) = false

-- the words of the members of an or
abbrev pub either_words : Shape → List Test
either_words (atom a) = []
either_words (all qs) = []
either_words (any qs) = words_in qs
either_words (negated q) = []

-- the word of a text of one word in titles
abbrev pub lone_titled : Lone → Option Test
lone_titled (words true text tests) = only tests
lone_titled (words false text tests) = None
lone_titled (prefix title text test) = None
lone_titled (name text) = None
lone_titled (value low high) = None

abbrev pub atom_titled : Atom → Option Test
atom_titled (lone l) = lone_titled l
atom_titled (near left distance right) = None

-- the word that a query asks for in titles, where it asks for nothing else
abbrev pub titled_word : Shape → Option Test
titled_word (atom a) = atom_titled a
titled_word (all qs) = None
titled_word (any qs) = None
titled_word (negated q) = None

-- the test of a stem that may stand anywhere
abbrev pub lone_stem : Lone → Option Test
lone_stem (words title text tests) = None
lone_stem (prefix true text test) = None
lone_stem (prefix false text test) = Some test
lone_stem (name text) = None
lone_stem (value low high) = None

abbrev pub atom_stem : Atom → Option Test
atom_stem (lone l) = lone_stem l
atom_stem (near left distance right) = None

-- the stem that a query asks for, where it asks for nothing else
abbrev pub stem_in : Shape → Option Test
stem_in (atom a) = atom_stem a
stem_in (all qs) = None
stem_in (any qs) = None
stem_in (negated q) = None
