-- The best answers of a query by score, and what they cost.
use Rattle.std.specs.Prelude.{◌≡◌, ℕ, ◌+◌, ◌≤◌, if◌then◌else◌, List, [], ◌∷◌, map, take, length}
use Rattle.alta_machine.specs.Ranked.{ranked}
use Rattle.alta_machine.specs.Scores.{scored}
use Rattle.alta_machine.specs.declared.document.Document.{Document}
use Rattle.alta_machine.specs.declared.test.Test.{Test}
use Rattle.alta_machine.specs.declared.usage.Use.{Use}
use Rattle.alta_search.specs.Plans.{lists, locations}
use Rattle.alta_search.specs.Tops.{same_test}
use Rattle.alta_search.specs.View.{View}
use Rattle.alta_top.specs.declared.best.Top.{Top}

-- the first `count` of the documents by score, and how many they are
pub record AreBest (uses : List Use) (documents : List Document) (count : ℕ) (top : Top) : Type 0 where
  pub answers : top.answers ≡ take count (ranked (map (scored uses) documents))
  pub total : top.total ≡ length documents

-- ---- what they cost

-- the lists of the first of these tests that is this one
abbrev pub lists_for : Test → List Test → List (List (List (List ℕ))) → List (List (List ℕ))
lists_for test [] cuts = []
lists_for test (t ∷ ts) [] = []
lists_for test (t ∷ ts) (c ∷ cs) = if same_test test t then c else lists_for test ts cs

-- the lists of each use, by which documents are scored
abbrev pub scoring_lists : List Use → View → List (List (List (List ℕ)))
scoring_lists uses v = map (λ (u : Use). lists_for u.test v.tests v.cuts) uses

-- the steps of all lists of the snapshot, each once, and of those of each use, once more
abbrev pub AreTopSteps : List Use → View → ℕ → ℕ → Type 0
AreTopSteps uses v before after = after ≤ before + (locations v.cuts + lists v.cuts)
    + (locations (scoring_lists uses v) + lists (scoring_lists uses v))
