-- What the add lines of a dump keep of a state.
use Rattle.std.specs.Prelude.{◌≡◌, map, IsSome}
use Rattle.std.specs.List.{All}
use Rattle.alta_machine.specs.States.{name_of}
use Rattle.alta_machine.specs.declared.document.State.{State}
use Rattle.alta_machine.specs.Deciding.{answers}
use Rattle.alta_machine.specs.Matches.{IsWellFormed}
use Rattle.alta_machine.specs.Shape.{Shape}
use Rattle.alta_dump.specs.Asked.{AsksForFoldings}
use Rattle.alta_machine.specs.Dumps.{restored}
use Rattle.alta_machine.specs.DumpLines.{line_of}
use Rattle.alta_dump.specs.Names.{HasItsName}

-- no document is skipped, and each has its own name alone
pub record IsRestorable (s : State) : Type 0 where
  pub lines : All (λ d. IsSome (line_of d)) s.documents
  pub names : All HasItsName s.documents

-- the query finds the documents of the same names in both states, in the same order
abbrev pub AnswersAlike : State → State → Shape → Type 0
AnswersAlike s t q = map name_of (answers t.documents q) ≡ map name_of (answers s.documents q)

-- The state that the add lines of a dump make answers each query for folded words as the state that was dumped.
abbrev pub AnswersAgain : Type 0
AnswersAgain = (s : State) (q : Shape) → IsRestorable s → IsWellFormed q → AsksForFoldings q
    → AnswersAlike s (restored s.documents) q
