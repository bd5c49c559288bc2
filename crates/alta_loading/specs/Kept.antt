-- Lists that were tested, and what is known of them as long as their levels stand.
use Rattle.std.specs.Prelude.{◌≡◌, ◌⊎◌, ℕ, List, [], ◌∷◌, All, Contains, Ok, Some, slice_get}
use Rattle.alta_loading.specs.Lists.{KeepsRow}
use Rattle.alta_loading.specs.Loads.{Load, Tells, list_at}
use Rattle.alta_loading.specs.Tested.{AreEndsWhole}
use Rattle.alta_loading.specs.declared.kept.Ends.TheVariants.{Untested}
use Rattle.alta_loading.specs.declared.kept.KeptList.{KeptList}
use Rattle.alta_loading.specs.declared.kept.KeptLists.{KeptLists}
use Rattle.alta_table.specs.Tables.{Tables}

-- ---- one list

-- The list of a row: it keeps what the row and the documents say, and where the disk tells, it stands there and is whole.
pub record IsTestedList (tells : Type 0) (image : List ℕ) (load : Load) (list : List ℕ) : Type 0 where
  pub keeps : KeepsRow load.level load.row list
  pub are : tells → list ≡ list_at image load
  pub told : tells → Tells {X = Unit {0}} image (load ∷ []) (Ok tt)

-- a list that is kept is that of its row in this level
abbrev pub IsTestedIn : Type 0 → List ℕ → Tables → KeptList → Type 0
IsTestedIn tells image level list = IsTestedList tells image
    (record { number = list.number; level = level; row = list.row }) list.posting.value

-- ---- what is kept

-- those that are kept of the level with this number are lists of its rows
abbrev pub AreTestedIn : Type 0 → List ℕ → ℕ → Tables → KeptLists → Type 0
AreTestedIn tells image number level kept =
    All (λ (list : KeptList). list.number ≡ number → IsTestedIn tells image level list) kept.lists.items

-- What is known of the lists of these levels holds: the lists of all ends are whole where they were tested, and those that are kept are lists of
-- their rows.
pub record AreKept (tells : Type 0) (image : List ℕ) (levels : List Tables) (kept : KeptLists) : Type 0 where
  pub ends : tells → AreEndsWhole kept.ends image levels
  pub lists : (number : ℕ) (level : Tables) → slice_get levels number ≡ Some level
      → AreTestedIn tells image number level kept

-- Nothing is known.
pub record IsNoneKept (kept : KeptLists) : Type 0 where
  pub ends : kept.ends ≡ Untested
  pub lists : kept.lists.items ≡ []

-- It is this list, of this row of the level with this number.
pub record IsListOfRow (number row : ℕ) (posting : List ℕ) (list : KeptList) : Type 0 where
  pub number_is : list.number ≡ number
  pub row_is : list.row ≡ row
  pub posting_is : list.posting.value ≡ posting

-- this list is kept of this row of the level with this number
pub record HasKept (kept : KeptLists) (number row : ℕ) (posting : List ℕ) : Type 0 where
  pub place : ℕ
  pub list : KeptList
  pub at : slice_get kept.lists.items place ≡ Some list
  pub is : IsListOfRow number row posting list

-- ---- a call that keeps

-- What is kept now was kept before, or is this list of this row.
pub record KeepsAlso (number row : ℕ) (posting : List ℕ) (old new : KeptLists) : Type 0 where
  pub ends : new.ends ≡ old.ends
  pub lists : All (λ (list : KeptList). Contains old.lists.items list
      ⊎ IsListOfRow number row posting list) new.lists.items

-- What is kept now was kept before, or is a list of this level.
pub record KeepsTested (tells : Type 0) (image : List ℕ) (number : ℕ) (level : Tables)
    (old new : KeptLists) : Type 0 where
  pub ends : new.ends ≡ old.ends
  pub lists : All (λ (list : KeptList). Contains old.lists.items list
      ⊎ ((list.number ≡ number) × IsTestedIn tells image level list)) new.lists.items
