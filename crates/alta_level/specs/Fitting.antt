-- Locations beside the ranges and the ends of documents.
use Rattle.std.specs.Prelude.{◌≡◌, ◌⊎◌, ℕ, ◌+◌, ◌-◌, ◌<◌, ◌≤◌, Bool, true, List, length, slice_index}
use Rattle.alta_content.specs.declared.document.DocRow.{DocRow}
use Rattle.alta_content.specs.Lists.{AreInRanges}
use Rattle.alta_content.specs.Rows.{ends_of}
use Rattle.alta_content.specs.Runs.{AreInRuns, IsInRun}

-- each location lies in the range of a document, and of the term `D` they are the ends of the documents
pub record AreFitting (documents : List DocRow) (ends : Bool) (list : List ℕ) : Type 0 where
  pub within : AreInRanges documents list
  pub ends_are : ends ≡ true → list ≡ ends_of documents

-- each location lies in a run, and the runs before this one end before the last of them
pub record AreInRunsTo (firsts ends locations : List ℕ) (run : ℕ) : Type 0 where
  pub within : run ≤ length ends
  pub passed : 0 < length locations → (i : ℕ) → i < run → slice_index ends i
      < slice_index locations (length locations - 1)
  pub held : AreInRuns firsts ends locations

-- a location lies in no run
pub record HasOutside (firsts ends locations : List ℕ) : Type 0 where
  pub at : ℕ
  pub within : at < length locations
  pub outside : IsInRun firsts ends (slice_index locations at) → ⊥

-- the locations are the ends of the documents from one row on, up to another
pub record AreEndsTo (documents : List DocRow) (from : ℕ) (locations : List ℕ) (row : ℕ) : Type 0 where
  pub row_is : row ≡ from + length locations
  pub within : row ≤ length documents
  pub same : (k : ℕ) → k < length locations → slice_index locations k ≡ slice_index (ends_of documents) (from + k)

-- there are more locations than ends from the row on, or a location is not the end
abbrev pub HasOther : List DocRow → ℕ → List ℕ → Type 0
HasOther documents from locations =
    (length documents < from + length locations)
    ⊎ ((k : ℕ) × (k < length locations) × (slice_index locations k ≡ slice_index (ends_of documents) (from + k) → ⊥))
