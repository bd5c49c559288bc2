-- What moves do to several trees, and to the two sides of a difference.
use Rattle.std.specs.Prelude.{◌≡◌, ℕ, ◌+◌, ◌<◌, ◌≤◌, ◌↔◌, Bool, IsTrue, List, map, length, slice_index_or, Contains, All, sum_by}
use Rattle.alta_codec.specs.declared.location.TheConstants.{TOP}
use Rattle.alta_codec.specs.Rising.{IsRising, first_from}
use Rattle.alta_compound.specs.Union.{least_of}
use Rattle.alta_docread.specs.Kept.{less}
use Rattle.alta_docread.specs.Tree.{Reading, Tree, trees_of, tree_list, tree_place, tree_all, tree_left, tree_depth, depth_in, IsAhead, IsSoundTree, IsBrought}

-- each tree is sound and reads what it read; what is left of all fell at least by the steps
pub record IsKept {N : Type 0} (tree : N → Tree) (os ns : List N) (before after : ℕ) : Type 0 where
  pub sound : All (λ n. IsSoundTree (tree n)) ns
  pub lists : map (λ n. tree_list (tree n)) ns ≡ map (λ n. tree_list (tree n)) os
  pub alls : map (λ n. tree_all (tree n)) ns ≡ map (λ n. tree_all (tree n)) os
  pub depth : depth_in (trees_of (map tree ns)) ≡ depth_in (trees_of (map tree os))
  pub left : sum_by (λ n. tree_left (tree n)) ns ≤ sum_by (λ n. tree_left (tree n)) os
  pub steps : after + sum_by (λ n. tree_left (tree n)) ns ≤ before + sum_by (λ n. tree_left (tree n)) os

-- each tree was brought to `to`, and the least of their places is `least`
pub record IsReached {N : Type 0} (tree : N → Tree) (os ns : List N) (to least before after : ℕ) : Type 0 where
  pub kept : IsKept tree os ns before after
  pub brought : (k : ℕ) (d : N) → k < length os
      → IsBrought (tree (slice_index_or os k d)) (tree (slice_index_or ns k d)) to
  pub lowest : least ≡ least_of (map (λ n. tree_place (tree n)) ns)
  pub falls : 0 < least_of (map (λ n. tree_place (tree n)) os) → least_of (map (λ n. tree_place (tree n)) os) < to
      → sum_by (λ n. tree_left (tree n)) ns < sum_by (λ n. tree_left (tree n)) os

-- Each tree in turn was brought to where the one before stands, the first of them to `goal`. They stand from `least` to
-- `last`, where the last of them stands, and no element from `goal` on that all have and that no tree stood above is
-- below `last`.
pub record IsPassed {N : Type 0} (tree : N → Tree) (os ns : List N) (goal least last before after : ℕ) : Type 0 where
  pub kept : IsKept tree os ns before after
  pub above : goal ≤ least
  pub from : goal ≤ last
  pub top : last ≤ TOP
  pub order : least ≤ last
  pub lower : All (λ n. least ≤ tree_place (tree n)) ns
  pub upper : All (λ n. tree_place (tree n) ≤ last) ns
  pub later : All (λ n. tree_place (tree n) ≤ last) os
  pub ahead : (z : ℕ) → All (λ l. Contains l z) (map (λ n. tree_list (tree n)) os)
      → All (λ n. tree_place (tree n) ≤ z) os → goal ≤ z → last ≤ z
  pub falls : All (λ n. 0 < tree_place (tree n)) os → All (λ n. tree_place (tree n) < goal) os
      → sum_by (λ n. tree_left (tree n)) ns < sum_by (λ n. tree_left (tree n)) os

-- The trees all stand at `at`, at or above `to`, and no element from `to` on that all have and that no tree stood above is
-- below it.
pub record IsJoined {N : Type 0} (tree : N → Tree) (os ns : List N) (to at before after : ℕ) : Type 0 where
  pub kept : IsKept tree os ns before after
  pub above : to ≤ at
  pub top : at ≤ TOP
  pub same : All (λ n. tree_place (tree n) ≡ at) ns
  pub later : All (λ n. tree_place (tree n) ≤ at) os
  pub ahead : (z : ℕ) → All (λ l. Contains l z) (map (λ n. tree_list (tree n)) os)
      → All (λ n. tree_place (tree n) ≤ z) os → to ≤ z → at ≤ z
  pub falls : All (λ n. 0 < tree_place (tree n)) os → All (λ n. tree_place (tree n) < to) os
      → sum_by (λ n. tree_left (tree n)) ns < sum_by (λ n. tree_left (tree n)) os

-- the tree answered whether its list has the end
pub record IsAsked (old new : Tree) (end : ℕ) (answer : Bool) (before after : ℕ) : Type 0 where
  pub sound : IsSoundTree new
  pub list : tree_list new ≡ tree_list old
  pub all : tree_all new ≡ tree_all old
  pub depth : tree_depth new ≡ tree_depth old
  pub ahead : IsAhead end (tree_list new) (tree_place new)
  pub which : IsTrue answer ↔ Contains (tree_list old) end
  pub left : tree_left new ≤ tree_left old
  pub steps : after + tree_left new ≤ before + tree_left old

-- the ends went on to the first at or above `to` that the tree's list does not have
pub record IsSkipped (r s : Reading) (old new : Tree) (to at before after : ℕ) : Type 0 where
  pub sound : IsSoundTree new
  pub ends : s.list ≡ r.list
  pub list : tree_list new ≡ tree_list old
  pub ends_all : s.all ≡ r.all
  pub all : tree_all new ≡ tree_all old
  pub depth : tree_depth new ≡ tree_depth old
  pub rising : IsRising s.list
  pub here : s.place ≡ at
  pub place : at ≡ first_from (less r.list (tree_list old)) to
  pub ahead : IsAhead at (tree_list new) (tree_place new)
  pub left : s.left + tree_left new ≤ r.left + tree_left old
  pub falls : r.place < to → s.left + tree_left new < r.left + tree_left old
  pub steps : after + (s.left + tree_left new) ≤ before + (r.left + tree_left old)
