-- The plan of a stem: its tests, and the ends that it finds.
use Rattle.std.specs.Prelude.{◌≡◌, List, [], ◌∷◌}
use Rattle.alta_compile.specs.Space.{Placed, IsSpace, document_end, ends_of, list_of}
use Rattle.alta_machine.specs.Plans as plan
use Rattle.alta_compile.specs.Listing.{plan_list}
use Rattle.alta_lead.specs.Having.{ends_with_any}
use Rattle.alta_machine.specs.declared.test.Test.{Test}
use Rattle.alta_search.specs.Plans.{tests_of}

-- The plan finds the documents that have a location of the stem's test.
pub record IsStem (p : plan.Tree) (stem : Test) : Type 0 where
  pub tests : tests_of p ≡ document_end ∷ stem ∷ []
  pub finds : (space : List Placed) → IsSpace space → plan_list space p
      ≡ ends_with_any (ends_of space) (list_of space stem ∷ [])
