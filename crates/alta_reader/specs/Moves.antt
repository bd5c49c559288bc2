-- What moves do to readers.
use Rattle.std.specs.Prelude.{◌≡◌, ◌≢◌, ℕ, ◌+◌, ◌<◌, ◌≤◌, List, [], map, length, slice_index_or, slice_set, All, sum_by}
use Rattle.alta_codec.specs.Rising.{first_from}

-- the reader of a list was made at its first location, by one step
pub record IsNewReader {R : Type 0} (Sound : R → Type 0) (list all : R → List ℕ) (location left : R → ℕ) (of : List ℕ)
    (before after : ℕ) (new : R) : Type 0 where
  pub sound : Sound new
  pub reads : list new ≡ of
  pub holds : all new ≡ of
  pub unmoved : location new ≡ first_from of 0
  pub rest : left new ≡ length of
  pub one : after ≡ before + 1

-- Sound readers moved so. What is left of all fell, and at least by the steps.
pub record MoveOn {R : Type 0} (Sound : R → Type 0) (left : R → ℕ) (Moved : List R → List R → Type 0)
    (old new : List R) (before after : ℕ) : Type 0 where
  pub sound : All Sound new
  pub moved : Moved old new
  pub falls : sum_by left new < sum_by left old
  pub steps : after + sum_by left new ≤ before + sum_by left old

-- reader j alone moved, to the first element of its list at or above a place
pub record SeeksAlone {R : Type 0} (list all : R → List ℕ) (location : R → ℕ) (j to : ℕ)
    (old new : List R) : Type 0 where
  pub lists : map list new ≡ map list old
  pub alls : map all new ≡ map all old
  pub places : map location new ≡ slice_set (map location old) j (first_from (slice_index_or (map list old) j []) to)
  pub others : (k : ℕ) (d : R) → k ≢ j → slice_index_or new k d ≡ slice_index_or old k d
