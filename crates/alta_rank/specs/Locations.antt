-- The score of a range of locations, and what it is to hold the locations of a document.
use Rattle.std.specs.Prelude.{◌≡◌, ◌↔◌, ℕ, ◌+◌, ◌<◌, Bool, true, ◌&&◌, nat_lt, nat_le, List, [], ◌∷◌, length, slice_index_or, filter, sum_by, Contains}
use Rattle.std.specs.List.{list_any, zip}
use Rattle.alta_codec.specs.Rising.{IsRising}
use Rattle.alta_machine.specs.Patterns.{meets}
use Rattle.alta_machine.specs.declared.test.Test.{Test}
use Rattle.alta_machine.specs.Scores.{weight}
use Rattle.alta_machine.specs.declared.usage.Use.{Use}

-- whether a title ends behind the location, at `end` at most
abbrev pub ends_behind : List ℕ → ℕ → ℕ → Bool
ends_behind titles end at = list_any (λ t. nat_lt at t && nat_le t end) titles

-- what the locations of a list count in the range from `first` to `end`
abbrev pub list_score : Bool → List ℕ → List ℕ → ℕ → ℕ → ℕ
list_score title list titles first end =
    sum_by (λ at. weight title (ends_behind titles end at)) (filter (λ at. nat_le first at && nat_le at end) list)

-- the score of the range, with the list of each use and that of the places where titles end
abbrev pub range_score : List Use → List (List ℕ) → List ℕ → ℕ → ℕ → ℕ
range_score uses lists titles first end =
    sum_by (λ (u, list). list_score u.title list titles first end) (zip uses lists)

-- The list rises, and in the range of a document that begins at `first` it has the locations of the cells that meet the
-- test.
pub record IsListIn (first : ℕ) (cells : List (List (List ℕ))) (test : Test) (list : List ℕ) : Type 0 where
  pub rising : IsRising list
  pub has : (place : ℕ) → place < length cells
      → Contains list (first + place) ↔ (meets test (slice_index_or cells place []) ≡ true)

-- there is a list for each use, of its test
abbrev pub AreListsIn : ℕ → List (List (List ℕ)) → List Use → List (List ℕ) → Type 0
AreListsIn first cells [] [] = Unit {0}
AreListsIn first cells [] (l ∷ ls) = ⊥
AreListsIn first cells (u ∷ us) [] = ⊥
AreListsIn first cells (u ∷ us) (l ∷ ls) = IsListIn first cells u.test l × AreListsIn first cells us ls
