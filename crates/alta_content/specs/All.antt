-- The rows of several levels, one behind the other, and a walk along them.
use Rattle.std.specs.Prelude.{◌≡◌, ℕ, ◌<◌, ◌≤◌, List, [], take, length, slice_index, slice_index_or}
use Rattle.std.specs.List.{flat_map}
use Rattle.std.specs.declared.alloc.Global.{Global}
use Rattle.std.specs.declared.rc.Rc.{Rc}
use Rattle.alta_content.specs.declared.level.LevelRows.{LevelRows}
use Rattle.alta_content.specs.Rows.{ends_of}
use Rattle.alta_content.specs.declared.document.DocRow.{DocRow}

-- the rows of a shared level
abbrev pub shared_rows : Rc LevelRows Global → List DocRow
shared_rows level = level.value

-- the rows of all levels
abbrev pub rows_of_levels : List (List DocRow) → List DocRow
rows_of_levels levels = flat_map (λ rows. rows) levels

-- rows, and how many of them a walk has passed
pub record Walked : Type 0 where
  pub rows : List DocRow
  pub at : ℕ

-- Of each row that was passed the end is below the place.
abbrev pub IsPast : Walked → ℕ → Type 0
IsPast w place = (k : ℕ) → k < w.at → slice_index (ends_of w.rows) k < place

-- A place in levels: the number of a level, how many rows the levels before it have, and how many rows of its own stand before the place.
pub record IsPlace (levels : List (List DocRow)) (number before index : ℕ) : Type 0 where
  pub level : number ≤ length levels
  pub passed : before ≡ length (rows_of_levels (take number levels))
  pub inside : index ≤ length (slice_index_or levels number [])
