-- Answers that are still to come, as documents.
use Rattle.std.specs.Prelude.{◌≡◌, ℕ, List, map}
use Rattle.alta_compile.specs.Space.{Placed}
use Rattle.alta_machine.specs.Plans.{Tree}
use Rattle.alta_machine.specs.declared.document.Document.{Document}
use Rattle.alta_search.specs.Answers.{coming}
use Rattle.alta_search.specs.Told.{answer_of}
use Rattle.alta_search.specs.View.{View, Shows}
use Rattle.alta_machine.specs.Searching.{told}

-- The snapshot shows a space of documents, in which the answers of the plan that are still to come from a place on are these documents.
pub record AreToCome (plan : Tree) (v : View) (from : ℕ) (documents : List Document) : Type 0 where
  pub space : List Placed
  pub shows : Shows space v
  pub answers : map answer_of (coming space plan v from) ≡ map told documents
