-- How the terms of a level stand to another, and two rows beside each other.
use Rattle.std.specs.Prelude.{◌≡◌, ◌⊎◌, ◌+◌, ◌<◌, ℕ, List, [], Option, Some, None, length, slice_index_or}
use Rattle.std.specs.Cmp.Lexicographic.{slice_cmp}
use Rattle.std.specs.Ordering.{nat_cmp}
use Rattle.std.specs.declared.cmp.Ordering.{Ordering}
use Rattle.std.specs.declared.cmp.Ordering.TheVariants.{Greater}
use Rattle.alta_loading.specs.declared.near.Beside.{Beside}
use Rattle.alta_table.specs.Tables.{Tables}

-- how a term stands to another, or, where there is none, what stands behind all
abbrev pub order_to : List ℕ → Option (List ℕ) → Ordering
order_to other None = Greater
order_to other (Some term) = slice_cmp nat_cmp term other

-- they are rows of this level
pub record IsBeside (level : Tables) (beside : Beside) : Type 0 where
  pub before : beside.before.tables ≡ level
  pub here : beside.here.tables ≡ level
  pub row : beside.before.row + 1 ≡ beside.here.row
  pub within : beside.here.row < length level.terms

-- terms are looked up in these levels, or in none
abbrev pub AreNear : List Tables → List Tables → Type 0
AreNear levels nears = (nears ≡ []) ⊎ (nears ≡ levels)

-- where one of this number is there, it is this level
abbrev pub IsNearAt : Tables → ℕ → List Tables → Type 0
IsNearAt level number nears = (d : Tables) → number < length nears → slice_index_or nears number d ≡ level
