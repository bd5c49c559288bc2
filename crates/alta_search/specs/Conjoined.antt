-- The tests of the plan of a conjunction.
use Rattle.std.specs.Prelude.{List, [], ◌∷◌, ◌++◌}
use Rattle.alta_compile.specs.Space.{document_end}
use Rattle.alta_compile.specs.declared.asked.Conjunction.{Conjunction}
use Rattle.alta_machine.specs.declared.test.Test.{Test}

-- three tests a negated word: the ends that are left, and the Found of the word
abbrev pub tests_against : List Test → List Test
tests_against [] = []
tests_against (t ∷ ts) = document_end ∷ document_end ∷ t ∷ tests_against ts

-- the test of document ends, the words, and the tests of the negated words
abbrev pub conjoined_tests : Conjunction → List Test
conjoined_tests c = (document_end ∷ c.words) ++ tests_against c.negated
