-- The best of rows by their scores alone.
use Rattle.std.specs.Prelude.{◌≡◌, ℕ, Bool, ◌&&◌, not, nat_lt, List, [], ◌∷◌, ◌++◌, map, length, filter}
use Rattle.alta_content.specs.Rows.{end_of}
use Rattle.alta_content.specs.declared.document.DocRow.{DocRow}
use Rattle.alta_docread.specs.Kept.{has}
use Rattle.alta_machine.specs.declared.scored.Scored.{Scored}
use Rattle.alta_rank.specs.Kept.{IsBest}
use Rattle.alta_rank.specs.Locations.{range_score}
use Rattle.alta_rank.specs.Scoring.{Scoring}
use Rattle.alta_top.specs.Scoring.{scored_by}
use Rattle.alta_search.specs.Words.{reader_list}
use Rattle.alta_search.specs.declared.test_reader.TestReader.{TestReader}

-- whether a row has a score, and its document was not deleted
abbrev pub is_scored : Scoring TestReader → List ℕ → DocRow → Bool
is_scored s gone row =
    nat_lt 0 (range_score s.uses (map reader_list s.readers) (reader_list s.titles) row.first (end_of row))
    && not (has gone (end_of row))

-- the rows that have one, in order
abbrev pub scored_rows : Scoring TestReader → List ℕ → List DocRow → List DocRow
scored_rows s gone rows = filter (is_scored s gone) rows

-- the first `count` of them, and how many they are
pub record AreRanked (s : Scoring TestReader) (gone : List ℕ) (rows : List DocRow) (count : ℕ) (kept : List Scored)
    (total : ℕ) : Type 0 where
  pub best : IsBest count (map (scored_by s) (scored_rows s gone rows)) kept
  pub size : total ≡ length (scored_rows s gone rows)

-- A row was taken in among the best, if it has a score, and counts as one then.
pub record TakesIn (s : Scoring TestReader) (gone : List ℕ) (row : DocRow) (count : ℕ) (old new : List Scored)
    (more : ℕ) : Type 0 where
  pub best : (every : List Scored) → IsBest count every old
      → IsBest count (every ++ map (scored_by s) (scored_rows s gone (row ∷ []))) new
  pub size : more ≡ length (scored_rows s gone (row ∷ []))
