-- What it is for a place in each list to satisfy bounds, and to be the least that does.
use Rattle.std.specs.Prelude.{◌≡◌, ◌≢◌, ◌↔◌, ℕ, ◌+◌, ◌<◌, ◌≤◌, List, [], length, slice_index, slice_index_or, slice_set, All, Bool, false, IsTrue}
use Rattle.alta_codec.specs.declared.location.TheConstants.{TOP}
use Rattle.alta_codec.specs.Rising.{IsPlace, first_from, pred_of}
use Rattle.alta_codec.specs.Inequality.{Inequality}
use Rattle.alta_codec.specs.declared.form.Form.{Form}
use Rattle.alta_codec.specs.declared.form.Form.TheVariants.{LocLoc, PrevLoc, LocPrev, PrevPrev}

-- the side that is to be at most the other, at a place in its list
abbrev pub low_side : Form → List ℕ → ℕ → ℕ
low_side LocLoc list x = x
low_side PrevLoc list x = pred_of list x
low_side LocPrev list x = x
low_side PrevPrev list x = pred_of list x

-- the side that bounds the other
abbrev pub high_side : Form → List ℕ → ℕ → ℕ
high_side LocLoc list x = x
high_side PrevLoc list x = x
high_side LocPrev list x = pred_of list x
high_side PrevPrev list x = pred_of list x

-- the list of a variable, and its place
abbrev pub list_at : List (List ℕ) → ℕ → List ℕ
list_at lists i = slice_index_or lists i []

-- the places meet the bound's inequality
abbrev pub MeetsBound : List (List ℕ) → List ℕ → Inequality → Type 0
MeetsBound lists x b =
    low_side b.form (list_at lists b.i) (slice_index x b.i) + b.minus
    ≤ high_side b.form (list_at lists b.j) (slice_index x b.j) + b.plus

-- a place of each variable in its list, the first below TOP, where each bound holds
pub record IsSolution (lists : List (List ℕ)) (bounds : List Inequality) (x : List ℕ) : Type 0 where
  pub sized : length x ≡ length lists
  pub places : (i : ℕ) → i < length lists → IsPlace (list_at lists i) (slice_index x i)
  pub led : slice_index x 0 < TOP
  pub bounded : All (λ b. MeetsBound lists x b) bounds

-- each variable is at or above its start
abbrev pub IsAtLeast : List ℕ → List ℕ → Type 0
IsAtLeast start x = (i : ℕ) → i < length start → slice_index start i ≤ slice_index x i

-- the solution at or above the start that is least in each variable
pub record IsLeast (lists : List (List ℕ)) (bounds : List Inequality) (start x : List ℕ) : Type 0 where
  pub solution : IsSolution lists bounds x
  pub above : IsAtLeast start x
  pub least : (y : List ℕ) → IsSolution lists bounds y → IsAtLeast start y → IsAtLeast x y

-- Of a bound's right side that is to be at least `need`: the place of j went to the least one that does;
-- or, at `false`, no place of the list does. No place went back, and the others stay.
pub record IsRaised (list : List ℕ) (form : Form) (need : ℕ) (old : List ℕ) (j : ℕ) (new : List ℕ)
    (found : Bool) : Type 0 where
  pub forward : IsAtLeast old new
  pub sized : length new ≡ length old
  pub least : IsTrue found → (x : List ℕ) → IsAtLeast old x → IsPlace list (slice_index x j)
      → need ≤ high_side form list (slice_index x j) → IsAtLeast new x
  pub others : (k : ℕ) → k ≢ j → slice_index new k ≡ slice_index old k
  pub reaches : IsTrue found → need ≤ high_side form list (slice_index new j)
  pub none : found ≡ false → (q : ℕ) → IsPlace list q → need ≤ high_side form list q → ⊥

-- Of a reader whose element before is to be at least a goal: its place went behind the first element there; or, at `false`, to
-- TOP, where there is no such element. The others stay.
pub record IsRaisedPast (list : List ℕ) (to : ℕ) (old : List ℕ) (j : ℕ) (new : List ℕ) (found : Bool) : Type 0 where
  pub raised : IsTrue found → new ≡ slice_set old j (first_from list (first_from list to + 1))
  pub none : found ≡ false → new ≡ slice_set old j TOP
  pub which : IsTrue found ↔ (first_from list to < TOP)
