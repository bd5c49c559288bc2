use Rattle.std.proofs.Common.{ℕ, ◌+◌, ◌-◌, ◌<◌, map, length, get_or}
use Rattle.alta_content.specs.Rows.{ends_of}
use Rattle.alta_content.specs.All.{shared_rows, rows_of_levels, IsPlace}
use Rattle.alta_content.proofs.walk.first_from.Given as goal

abbrev pub invariant-levels : goal.invariant-levels
invariant-levels l = record {
  place : IsPlace (map shared_rows l.levels) l.place.level l.place.before l.place.index;
  passed : (k : ℕ) → k < l.place.before + l.place.index → get_or (ends_of (rows_of_levels (map shared_rows l.levels))) k 0 < l.end;
}

abbrev pub decreases-levels : goal.decreases-levels
decreases-levels l = length l.levels - l.place.level
