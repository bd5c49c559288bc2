-- The names among the terms of a document.
use Rattle.std.specs.Prelude.{◌≡◌, [], ◌∷◌, drop, get_or}
use Rattle.std.specs.List.{All}
use Rattle.alta_machine.specs.declared.document.Document.{Document}
use Rattle.alta_machine.specs.declared.kinds.TheConstants.{NAME}
use Rattle.alta_machine.specs.Plain.{of_kind}

-- the only name among a document's terms is its own, in its first cell
pub record HasItsName (d : Document) : Type 0 where
  pub first : of_kind NAME (get_or d.cells 0 []) ≡ (NAME ∷ d.name) ∷ []
  pub others : All (λ cell. of_kind NAME cell ≡ []) (drop 1 d.cells)
