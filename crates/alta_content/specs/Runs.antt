-- Runs of documents that stand side by side.
use Rattle.std.specs.Prelude.{◌≡◌, ◌↔◌, ℕ, ◌+◌, ◌<◌, ◌≤◌, List, length, slice_index}
use Rattle.alta_codec.specs.Rising.{IsRising}
use Rattle.alta_content.specs.declared.document.DocRow.{DocRow}
use Rattle.alta_content.specs.Lists.{IsInRange}
use Rattle.alta_content.specs.Rows.{AreJoined, ends_of, firsts_of}

-- each range ends before every later one begins
abbrev pub StandApart : List ℕ → List ℕ → Type 0
StandApart firsts ends = (i j : ℕ) → i < j → j < length ends → slice_index ends i < slice_index firsts j

-- runs that rise without meeting
pub record RunsRise (firsts ends : List ℕ) : Type 0 where
  pub paired : length firsts ≡ length ends
  pub rising : IsRising ends
  pub apart : StandApart firsts ends

-- the location lies in one of the runs with these first and last locations
pub record IsInRun (firsts ends : List ℕ) (location : ℕ) : Type 0 where
  pub run : ℕ
  pub within : run < length ends
  pub from : slice_index firsts run ≤ location
  pub to : location ≤ slice_index ends run

abbrev pub AreInRuns : List ℕ → List ℕ → List ℕ → Type 0
AreInRuns firsts ends list = (k : ℕ) → k < length list → IsInRun firsts ends (slice_index list k)

-- The runs of documents, by their first and last locations: the locations in them are those in the ranges of documents. Between two
-- runs there is a gap, so that there are no fewer runs. They stand apart where the documents do.
pub record AreRunsOf (documents : List DocRow) (firsts ends : List ℕ) : Type 0 where
  pub paired : length firsts ≡ length ends
  pub rising : IsRising ends
  pub apart : StandApart (firsts_of documents) (ends_of documents) → StandApart firsts ends
  pub same : (location : ℕ) → IsInRange documents location ↔ IsInRun firsts ends location
  pub parted : (r : ℕ) → r + 1 < length ends → slice_index ends r + 1 ≡ slice_index firsts (r + 1) → ⊥
  pub joined : length ends ≤ 1 → AreJoined documents
