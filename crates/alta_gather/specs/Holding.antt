-- Which of several lists have a location.
use Rattle.std.specs.Prelude.{◌≡◌, ℕ, ◌+◌, ◌<◌, Bool, nat_eq, if◌then◌else◌, List, [], ◌∷◌, length, slice_index, slice_index_or}
use Rattle.std.specs.List.{list_any}
use Rattle.alta_gather.specs.declared.held.Held.{Held}
use Rattle.alta_gather.specs.declared.held.Held.TheVariants.{Never, Once, Often}

-- whether the list has the location
unfoldable pub has : List ℕ → ℕ → Bool
has list at = list_any (nat_eq at) list

-- the indices of the lists that have the location, the first of the lists having this index
abbrev pub holders_from : ℕ → List (List ℕ) → ℕ → List ℕ
holders_from index [] at = []
holders_from index (list ∷ lists) at = if has list at then index ∷ holders_from (index + 1) lists at
    else holders_from (index + 1) lists at

abbrev pub held_by : List ℕ → Held
held_by [] = Never
held_by (index ∷ []) = Once index
held_by (index ∷ next ∷ indices) = Often

-- which of the lists have the location
abbrev pub held_in : List (List ℕ) → ℕ → Held
held_in lists at = held_by (holders_from 0 lists at)

-- a further list has it
abbrev pub with_list : ℕ → Held → Held
with_list index Never = Once index
with_list index (Once other) = Often
with_list index Often = Often

-- The further list is marked at each of the places that it has, and at no other.
pub record IsMarked (places list : List ℕ) (index : ℕ) (old new : List Held) : Type 0 where
  pub long : length new ≡ length old
  pub marked : (i : ℕ) (d : Held) → i < length places
      → slice_index_or new i d ≡ (if has list (slice_index places i) then with_list index (slice_index_or old i d)
      else slice_index_or old i d)
