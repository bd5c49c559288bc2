-- Places that rise, in runs of places that follow each other: of each run the last place, and its first with how many places stand in
-- the runs before it.
use Rattle.std.specs.Prelude.{◌≡◌, ℕ, ◌+◌, ◌-◌, ◌<◌, ◌≤◌, List, [], ◌∷◌, ◌++◌}
use Rattle.std.specs.List.{range_with_len}
use Rattle.alta_codec.specs.declared.location.TheConstants.{TOP}
use Rattle.alta_gather.specs.declared.places.Run.{Run}

-- the places of runs
abbrev pub places_in : List ℕ → List Run → List ℕ
places_in [] runs = []
places_in (last ∷ lasts) [] = []
places_in (last ∷ lasts) (run ∷ runs) = range_with_len run.first (last + 1 - run.first) ++ places_in lasts runs

-- It is a run that ends at this place, above a lower one, and so many places stand before it.
pub record IsRun (low before last : ℕ) (run : Run) : Type 0 where
  pub above : low < run.first
  pub some : run.first ≤ last
  pub below : last < TOP
  pub behind : run.before ≡ before

-- They are runs one above the other, the first above a place and behind so many places.
abbrev pub AreRuns : ℕ → ℕ → List ℕ → List Run → Type 0
AreRuns low before [] [] = Unit {0}
AreRuns low before [] (run ∷ runs) = ⊥
AreRuns low before (last ∷ lasts) [] = ⊥
AreRuns low before (last ∷ lasts) (run ∷ runs) = IsRun low before last run
    × AreRuns last (before + (last + 1 - run.first)) lasts runs

-- the last place, or else a lower one
abbrev pub last_above : ℕ → List ℕ → ℕ
last_above low [] = low
last_above low (last ∷ lasts) = last_above last lasts
