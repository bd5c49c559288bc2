-- Which states of documents are well formed.
use Rattle.std.specs.Prelude.{◌≢◌, ℕ, ◌<◌, ◌≤◌, List, [], ◌∷◌, map}
use Rattle.std.specs.List.{All}
use Rattle.alta_machine.specs.declared.document.Document.{Document}
use Rattle.alta_machine.specs.declared.document.State.{State}

abbrev pub number_of : Document → ℕ
number_of document = document.number

abbrev pub name_of : Document → List ℕ
name_of document = document.name

-- each number is below all those behind it
abbrev pub Rise : List ℕ → Type 0
Rise [] = Unit {0}
Rise (number ∷ later) = All (λ n. number < n) later × Rise later

-- no two are equal
abbrev pub AllDiffer : List (List ℕ) → Type 0
AllDiffer [] = Unit {0}
AllDiffer (name ∷ others) = All (λ n. name ≢ n) others × AllDiffer others

-- the documents rise in number, from 1 to below the next number, and no two have the same name
pub record IsState (state : State) : Type 0 where
  pub next : 1 ≤ state.next
  pub numbered : All (λ document. (1 ≤ document.number) × (document.number < state.next)) state.documents
  pub rising : Rise (map number_of state.documents)
  pub distinct : AllDiffer (map name_of state.documents)

-- no document, and the next number is 1
abbrev pub empty_state : State
empty_state = record { next = 1; documents = [] }
