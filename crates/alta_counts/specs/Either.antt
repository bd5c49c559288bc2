-- The plan of an or of words: its tests, and the ends that it finds.
use Rattle.std.specs.Prelude.{◌≡◌, List, [], ◌∷◌, map, All}
use Rattle.alta_compile.specs.Space.{Placed, IsSpace, document_end, ends_of, list_of}
use Rattle.alta_machine.specs.Plans as plan
use Rattle.alta_compile.specs.Listing.{plan_list}
use Rattle.alta_lead.specs.Having.{ends_with_any}
use Rattle.alta_machine.specs.declared.test.Test.{Test}
use Rattle.alta_search.specs.Met.{IsExact}
use Rattle.alta_search.specs.Plans.{tests_of}

-- two tests a word: that of document ends, and its own
abbrev pub either_tests : List Test → List Test
either_tests [] = []
either_tests (t ∷ ts) = document_end ∷ t ∷ either_tests ts

-- every second
abbrev pub seconds : {X : Type 0} → List X → List X
seconds [] = []
seconds (a ∷ []) = []
seconds (a ∷ b ∷ xs) = b ∷ seconds xs

-- The plan finds the documents that have one of the words; each of its tests asks for one term.
pub record IsEither (p : plan.Tree) (words : List Test) : Type 0 where
  pub tests : tests_of p ≡ either_tests words
  pub exact : All IsExact (tests_of p)
  pub finds : (space : List Placed) → IsSpace space → plan_list space p
      ≡ ends_with_any (ends_of space) (map (list_of space) words)
