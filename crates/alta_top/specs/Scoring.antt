-- The scores of rows by readers over a snapshot.
use Rattle.std.specs.Prelude.{◌≡◌, ℕ, ◌+◌, ◌-◌, ◌^◌, ◌<◌, ◌≤◌, List, [], ◌∷◌, map, length, slice_index_or}
use Rattle.alta_codec.specs.declared.location.TheConstants.{TOP}
use Rattle.alta_content.specs.Rows.{end_of}
use Rattle.alta_content.specs.declared.document.DocRow.{DocRow}
use Rattle.alta_rank.specs.Locations.{range_score}
use Rattle.alta_rank.specs.Scoring.{Scoring, left_of}
use Rattle.alta_machine.specs.declared.scored.Scored.{Scored}
use Rattle.alta_machine.specs.declared.usage.Use.{Use}
use Rattle.alta_search.specs.Lists.{test_list, count_lists, count_locations}
use Rattle.alta_search.specs.Plans.{lists, locations}
use Rattle.alta_top.specs.Best.{scoring_lists}
use Rattle.alta_search.specs.View.{View}
use Rattle.alta_search.specs.Words.{reader_list, reader_left}
use Rattle.alta_search.specs.declared.test_reader.TestReader.{TestReader}

-- the lists of the last use
abbrev pub last_lists : View → List (List (List ℕ))
last_lists v = slice_index_or v.cuts (length v.cuts - 1) []

-- A scorer by these uses over a snapshot whose last use is the test of title ends was made, and asked nothing. So far it added at
-- most a step a list and one a location.
pub record IsScorerOf (asked : List Use) (v : View) (new : Scoring TestReader) (before after : ℕ) : Type 0 where
  pub uses : new.uses ≡ asked
  pub reads : map reader_list new.readers ≡ map test_list (scoring_lists asked v)
  pub titles : reader_list new.titles ≡ test_list (last_lists v)
  pub unasked : new.asked ≡ 0
  pub steps : after + left_of reader_left new
      ≤ before + (locations (scoring_lists asked v) + lists (scoring_lists asked v))
      + (count_locations (last_lists v) + count_lists (last_lists v))

-- the scorer scored documents: it reads what it read, and what is left of it fell at least by the steps
pub record HasScored (old new : Scoring TestReader) (before after : ℕ) : Type 0 where
  pub uses : new.uses ≡ old.uses
  pub reads : map reader_list new.readers ≡ map reader_list old.readers
  pub titles : reader_list new.titles ≡ reader_list old.titles
  pub steps : after + left_of reader_left new ≤ before + left_of reader_left old

-- a row that may be scored behind a place
pub record IsScorable (asked : ℕ) (row : DocRow) : Type 0 where
  pub behind : asked < row.first
  pub some : 1 ≤ row.cells
  pub few : row.cells ≤ 2 ^ 54
  pub below : end_of row < TOP

-- each row may be scored behind the one before it
abbrev pub AreScorable : ℕ → List DocRow → Type 0
AreScorable asked [] = Unit {0}
AreScorable asked (row ∷ rows) = IsScorable asked row × AreScorable (end_of row) rows

-- a row with the score of its range
abbrev pub scored_by : Scoring TestReader → DocRow → Scored
scored_by s row = record {
  number = row.number;
  name = row.name;
  score = range_score s.uses (map reader_list s.readers) (reader_list s.titles) row.first (end_of row);
}
