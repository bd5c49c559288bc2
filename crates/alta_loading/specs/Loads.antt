-- Lists that are loaded one after the other: which they are, the first fault among them, and how many bytes they have.
use Rattle.std.specs.Prelude.{◌⊎◌, ℕ, ◌+◌, if◌then◌else◌, List, [], ◌∷◌, ◌++◌, Option, Some, None, Result, All, IfOk}
use Rattle.std.specs.List.{sum_by}
use Rattle.std.specs.Str.{bytes_eq}
use Rattle.alta_level.specs.Stored.{Stored, IsListFault, IsListOf}
use Rattle.alta_disk.specs.Answers.{IfDamaged, IsDamaged}
use Rattle.alta_disk.specs.Calls.{Retrieves}
use Rattle.alta_disk.specs.Disk.{DiskState}
use Rattle.alta_loading.specs.Lists.{KeepsRow, stored_in, stream_size, summary_size}
use Rattle.alta_disk.specs.declared.fault.LoadFault.{LoadFault}
use Rattle.alta_postings.specs.Deltas.{decoded_list}
use Rattle.alta_table.specs.Tables.{Tables}
use Rattle.alta_table.specs.declared.term.TermRow.{TermRow}

-- a list to load: the number of its level, the level's tables, and the row of its term
pub record Load : Type 0 where
  pub number : ℕ
  pub level : Tables
  pub row : ℕ

abbrev pub number_of : Load → ℕ
number_of load = load.number

-- ---- the lists of a term

-- the row of a term, the first of these rows having this index
abbrev pub row_from : ℕ → List TermRow → List ℕ → Option ℕ
row_from i [] term = None
row_from i (row ∷ rows) term = if bytes_eq row.term term then Some i else row_from (i + 1) rows term

abbrev pub load_at : ℕ → Tables → Option ℕ → List Load
load_at number level None = []
load_at number level (Some row) = record { number = number; level = level; row = row } ∷ []

-- the list of a term in a level of this number, or none
abbrev pub load_in : ℕ → Tables → List ℕ → List Load
load_in number level term = load_at number level (row_from 0 level.terms term)

-- the lists of a term in levels, in their order, the first of which has this number
abbrev pub loads_from : ℕ → List Tables → List ℕ → List Load
loads_from number [] term = []
loads_from number (level ∷ levels) term = load_in number level term ++ loads_from (number + 1) levels term

-- ---- on the disk

abbrev pub stored_by : List ℕ → Load → Stored
stored_by image load = stored_in load.level load.row image

-- the locations that stand there
abbrev pub list_at : List ℕ → Load → List ℕ
list_at image load = decoded_list (stored_by image load).stream

-- they are a list of the level
abbrev pub IsWhole : List ℕ → Load → Type 0
IsWhole image load = IsListOf load.level.documents (stored_by image load) (list_at image load)

-- the first fault of the first list that is not whole
abbrev pub IsFirstFault : List ℕ → List Load → ℕ → Type 0
IsFirstFault image [] p = ⊥
IsFirstFault image (load ∷ loads) p = IsListFault load.level.documents (stored_by image load) p
    ⊎ (IsWhole image load × IsFirstFault image loads p)

-- Unless the disk failed or memory ran out, the call answered Ok exactly where all these lists are whole, and else damage at the first fault.
pub record Tells {X : Type 0} (image : List ℕ) (loads : List Load) (result : Result X LoadFault) : Type 0 where
  pub whole : IfOk result (λ x. All (IsWhole image) loads)
  pub first : IfDamaged result (IsFirstFault image loads)
  pub only : All (IsWhole image) loads → IfDamaged result (λ p. ⊥)
  pub damaged : (p : ℕ) → IsFirstFault image loads p → IsDamaged result p

-- ---- what they cost, and what they keep

-- how many bytes stream and summary have
abbrev pub load_size : Load → ℕ
load_size load = stream_size load.level load.row + summary_size load.level load.row

abbrev pub load_sizes : List Load → ℕ
load_sizes loads = sum_by load_size loads

-- each list keeps what its row and its documents say
abbrev pub KeepRows : List Load → List (List ℕ) → Type 0
KeepRows [] [] = Unit {0}
KeepRows [] (list ∷ lists) = ⊥
KeepRows (load ∷ loads) [] = ⊥
KeepRows (load ∷ loads) (list ∷ lists) = KeepsRow load.level load.row list × KeepRows loads lists

-- ---- a call that loads

-- It reads no more than these lists have, and tells which of them are whole.
pub record ReadsLists {X : Type 0} (tells : Type 0) (loads : List Load) (old new : DiskState)
    (result : Result X LoadFault) : Type 0 where
  pub retrieves : Retrieves tells (load_sizes loads) old new result
  pub told : tells → Tells old.content loads result
