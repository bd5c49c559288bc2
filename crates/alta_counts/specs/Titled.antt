-- The plan of a word in titles: its tests, and the ends that it finds.
use Rattle.std.specs.Prelude.{◌≡◌, List, [], ◌∷◌, All}
use Rattle.alta_compile.specs.Space.{Placed, IsSpace, document_end, ends_of, list_of}
use Rattle.alta_machine.specs.Plans as plan
use Rattle.alta_compile.specs.Listing.{plan_list}
use Rattle.alta_lead.specs.Followed.{ends_followed}
use Rattle.alta_machine.specs.Patterns.{title_end}
use Rattle.alta_machine.specs.declared.test.Test.{Test}
use Rattle.alta_search.specs.Met.{IsExact}
use Rattle.alta_search.specs.Plans.{tests_of}

-- The plan finds the documents that have the word before the end of a title; each of its tests asks for one term.
pub record IsTitled (p : plan.Tree) (word : Test) : Type 0 where
  pub tests : tests_of p ≡ document_end ∷ word ∷ title_end ∷ []
  pub exact : All IsExact (tests_of p)
  pub finds : (space : List Placed) → IsSpace space → plan_list space p
      ≡ ends_followed (ends_of space) (list_of space word) (list_of space title_end)
