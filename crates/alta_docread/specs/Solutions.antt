-- The list of the places of the first variable over all solutions.
use Rattle.std.specs.Prelude.{◌≡◌, ◌⊎◌, ℕ, ◌+◌, ◌<◌, ◌≤◌, Bool, ◌&&◌, nat_eq, nat_le, nat_lt, List, [], ◌∷◌, ◌++◌, length, slice_index, Any}
use Rattle.std.specs.List.{concat, filter, list_all, list_any}
use Rattle.alta_codec.specs.declared.location.TheConstants.{TOP}
use Rattle.alta_codec.specs.Rising.{IsRising, first_from, count_from}
use Rattle.alta_codec.specs.Inequality.{Inequality}
use Rattle.alta_codec.specs.declared.form.Form.TheVariants.{LocLoc, PrevLoc}
use Rattle.alta_solver.specs.Solution.{low_side, high_side, list_at, IsSolution, IsAtLeast}

-- whether the test passes some row of one place of each list, or TOP
unfoldable pub some_row : List (List ℕ) → (List ℕ → Bool) → Bool
some_row [] p = p []
some_row (l ∷ ls) p = list_any (λ x. some_row ls (λ row. p (x ∷ row))) (l ++ TOP ∷ [])

-- whether each bound holds
unfoldable pub keeps_all : List (List ℕ) → List ℕ → List Inequality → Bool
keeps_all lists x bounds =
    list_all (λ b. nat_le (low_side b.form (list_at lists b.i) (slice_index x b.i) + b.minus)
    (high_side b.form (list_at lists b.j) (slice_index x b.j) + b.plus)) bounds

-- whether a solution has this first place
abbrev pub leads : List (List ℕ) → List Inequality → ℕ → Bool
leads lists bounds e = nat_lt e TOP && some_row lists (λ x. nat_eq (slice_index x 0) e && keeps_all lists x bounds)

-- the first places of all solutions
unfoldable pub found_list : List (List ℕ) → List Inequality → List ℕ
found_list lists bounds = filter (leads lists bounds) (list_at lists 0)

-- a solution with this first place
abbrev pub Leads : List (List ℕ) → List Inequality → ℕ → Type 0
Leads lists bounds e = (x : List ℕ) × IsSolution lists bounds x × (slice_index x 0 ≡ e)

-- the bound that reader i's place is at most that of reader 0
abbrev pub IsUpper : ℕ → Inequality → Type 0
IsUpper i b = (b.form ≡ LocLoc) × (b.i ≡ i) × (b.j ≡ 0) × (b.plus ≡ b.minus)

-- the bound that the place before that of reader 0 is below reader i's
abbrev pub IsLower : ℕ → Inequality → Type 0
IsLower i b = (b.form ≡ PrevLoc) × (b.i ≡ 0) × (b.j ≡ i) × (b.minus ≡ b.plus + 1)

-- each reader but the first is held between two neighbouring places of the first
pub record IsHeld (n : ℕ) (bounds : List Inequality) : Type 0 where
  pub upper : (i : ℕ) → 0 < i → i < n → Any (IsUpper i) bounds
  pub lower : (i : ℕ) → 0 < i → i < n → Any (IsLower i) bounds

-- the first reader stands at or above the place, or the second does, which the first does not stand below in a solution
abbrev pub IsReadyFrom : ℕ → List ℕ → Type 0
IsReadyFrom to places = (to ≤ slice_index places 0) ⊎ ((1 < length places) × (to ≤ slice_index places 1))

-- Where a walk over the solutions stands: no solution at or above the place was passed, and the place is 0 before the
-- first move, then that of the solution at which the readers stand, or TOP.
pub record IsWalking (lists : List (List ℕ)) (bounds : List Inequality) (places : List ℕ) (at : ℕ) : Type 0 where
  pub ahead : (x : List ℕ) → IsSolution lists bounds x → at ≤ slice_index x 0 → IsAtLeast places x
  pub stands : 0 < at → at < TOP → IsSolution lists bounds places × (slice_index places 0 ≡ at)

-- the readers of one walk as plain lists and numbers: what each reads, all that their leaves have, where each stands,
-- the bounds between them, what is left of them together, and where the walk stands
pub record Walk : Type 0 where
  pub lists : List (List ℕ)
  pub alls : List (List ℕ)
  pub places : List ℕ
  pub bounds : List Inequality
  pub left : ℕ
  pub at : ℕ

abbrev pub walk_list : Walk → List ℕ
walk_list w = found_list w.lists w.bounds

abbrev pub walk_all : Walk → List ℕ
walk_all w = concat w.alls

-- What a walk keeps from its making on: it is over some lists, the first of which rises, and holds the others to it.
-- While it stands below TOP, no element of the leaves at or above its place was passed.
pub record IsSoundWalk (w : Walk) : Type 0 where
  pub walking : IsWalking w.lists w.bounds w.places w.at
  pub some : 0 < length w.lists
  pub rising : IsRising (list_at w.lists 0)
  pub held : IsHeld (length w.lists) w.bounds
  pub top : w.at ≤ TOP
  pub unpassed : 0 < w.at → w.at < TOP → count_from (walk_all w) w.at ≤ w.left

-- the walk went on to the first place at or above `to`, with the counter of steps before and after
pub record IsWalked (old new : Walk) (to before after : ℕ) : Type 0 where
  pub sound : IsSoundWalk new
  pub list : walk_list new ≡ walk_list old
  pub all : walk_all new ≡ walk_all old
  pub place : new.at ≡ first_from (walk_list old) to
  pub begun : 0 < new.at
  pub left : new.left ≤ old.left
  pub falls : 0 < old.at → new.left < old.left
  pub steps : after + new.left ≤ before + old.left
