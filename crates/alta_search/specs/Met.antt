-- Terms that meet a test, and tests that one term meets at most.
use Rattle.std.specs.Prelude.{ℕ, ◌≤◌, IsTrue, List, length, All}
use Rattle.alta_machine.specs.declared.test.Test.{Test}
use Rattle.alta_machine.specs.declared.test.Test.TheVariants.{Is, Begins}
use Rattle.alta_search.specs.Lists.{TermKey, term_in, test_in, test_keys}
use Rattle.alta_search.specs.Newest.{term_meets}
use Rattle.alta_search.specs.declared.lists.TestLists.{TestLists}

-- each of these terms meets the test
abbrev pub MeetTest : Test → List TermKey → Type 0
MeetTest test keys = All (λ key. IsTrue (term_meets test (term_in key))) keys

-- each term of a test meets it
abbrev pub MeetsTest : TestLists → Type 0
MeetsTest lists = MeetTest (test_in lists) (test_keys lists)

-- the test asks for one term
abbrev pub IsExact : Test → Type 0
IsExact (Is term) = Unit {0}
IsExact (Begins start) = ⊥

-- there is one term at most
abbrev pub IsSingle : List (List (List ℕ)) → Type 0
IsSingle terms = length terms ≤ 1
