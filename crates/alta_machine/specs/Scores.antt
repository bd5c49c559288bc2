-- The score of a document by its cells.
use Rattle.std.specs.Prelude.{ℕ, ◌+◌, Bool, if◌then◌else◌, List, [], ◌∷◌, sum_by}
use Rattle.std.specs.List.{list_any}
use Rattle.alta_machine.specs.Patterns.{meets, title_end}
use Rattle.alta_machine.specs.declared.usage.Use.{Use}
use Rattle.alta_machine.specs.declared.document.Document.{Document}
use Rattle.alta_machine.specs.declared.scored.Scored.{Scored}

-- what a place counts: 4 where a title ends behind it; any other 1, or 0 for a use in the title
abbrev pub weight : Bool → Bool → ℕ
weight title before = if before then 4 else (if title then 0 else 1)

-- what the places count whose cell meets the test of a use
unfoldable pub use_score : Use → List (List (List ℕ)) → ℕ
use_score u [] = 0
use_score u (cell ∷ later) =
    (if meets u.test cell then weight u.title (list_any (meets title_end) later) else 0) + use_score u later

-- the score of a document with these cells
abbrev pub score_of : List Use → List (List (List ℕ)) → ℕ
score_of uses cells = sum_by (λ u. use_score u cells) uses

-- ---- the best of them

-- a document with its score
abbrev pub scored : List Use → Document → Scored
scored uses d = record { number = d.number; name = d.name; score = score_of uses d.cells }
