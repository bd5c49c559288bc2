-- What a tree of document readers is: plain lists and places, and what it means.
use Rattle.std.specs.Prelude.{◌≡◌, ℕ, ◌+◌, ◌<◌, ◌≤◌, max, List, [], ◌∷◌, ◌++◌, map, length, Contains, All}
use Rattle.alta_codec.specs.declared.location.TheConstants.{TOP}
use Rattle.alta_codec.specs.Lists.{greatest_of}
use Rattle.alta_codec.specs.Rising.{IsRising, IsPlace, first_from}
use Rattle.alta_compound.specs.Union.{union_of, least_of}
use Rattle.alta_solver.specs.Solution.{list_at}
use Rattle.alta_docread.specs.Kept.{less, common}
use Rattle.alta_docread.specs.Solutions.{Walk, walk_list, walk_all, IsHeld, IsSoundWalk}

-- one reader: what it reads, all that its leaves have, where it stands, and what is left of it
pub record Reading : Type 0 where
  pub list : List ℕ
  pub all : List ℕ
  pub place : ℕ
  pub left : ℕ

mutual
  -- a difference is with the place where it stands, 0 before its first move
  pub data Tree : Type 0 where
    found : Walk → Tree
    all_of : Trees → Tree
    any_of : Trees → Tree
    without : ℕ → Reading → Tree → Tree

  pub data Trees : Type 0 where
    none : Trees
    more : Tree → Trees → Trees

abbrev pub trees_of : List Tree → Trees
trees_of [] = none
trees_of (t ∷ ts) = more t (trees_of ts)

abbrev mutual
  -- the list that a tree reads
  pub tree_list : Tree → List ℕ
  tree_list (found w) = walk_list w
  tree_list (all_of ts) = common (lists_of ts)
  tree_list (any_of ts) = union_of (lists_of ts)
  tree_list (without at r t) = less r.list (tree_list t)

  pub lists_of : Trees → List (List ℕ)
  lists_of none = []
  lists_of (more t ts) = tree_list t ∷ lists_of ts

abbrev mutual
  -- where a tree stands: an intersection at the greatest place of its trees, a union at the least
  pub tree_place : Tree → ℕ
  tree_place (found w) = w.at
  tree_place (all_of ts) = greatest_of (places_of ts)
  tree_place (any_of ts) = least_of (places_of ts)
  tree_place (without at r t) = at

  pub places_of : Trees → List ℕ
  places_of none = []
  places_of (more t ts) = tree_place t ∷ places_of ts

abbrev mutual
  -- where the readers below stand
  pub reader_places : Tree → List ℕ
  reader_places (found w) = w.places
  reader_places (all_of ts) = reader_places_in ts
  reader_places (any_of ts) = reader_places_in ts
  reader_places (without at r t) = r.place ∷ reader_places t

  pub reader_places_in : Trees → List ℕ
  reader_places_in none = []
  reader_places_in (more t ts) = reader_places t ++ reader_places_in ts

abbrev mutual
  -- the elements of all leaves below
  pub tree_all : Tree → List ℕ
  tree_all (found w) = walk_all w
  tree_all (all_of ts) = all_in ts
  tree_all (any_of ts) = all_in ts
  tree_all (without at r t) = r.all ++ tree_all t

  pub all_in : Trees → List ℕ
  all_in none = []
  all_in (more t ts) = tree_all t ++ all_in ts

abbrev mutual
  -- what is left of all leaves below
  pub tree_left : Tree → ℕ
  tree_left (found w) = w.left
  tree_left (all_of ts) = left_in ts
  tree_left (any_of ts) = left_in ts
  tree_left (without at r t) = r.left + tree_left t

  pub left_in : Trees → ℕ
  left_in none = 0
  left_in (more t ts) = tree_left t + left_in ts

abbrev mutual
  -- how deep a tree is
  pub tree_depth : Tree → ℕ
  tree_depth (found w) = 1
  tree_depth (all_of ts) = 1 + depth_in ts
  tree_depth (any_of ts) = 1 + depth_in ts
  tree_depth (without at r t) = 1 + tree_depth t

  pub depth_in : Trees → ℕ
  depth_in none = 0
  depth_in (more t ts) = max (tree_depth t) (depth_in ts)

-- the tree is one Found
abbrev pub IsOneFound : Tree → Type 0
IsOneFound (found w) = Unit {0}
IsOneFound (all_of ts) = ⊥
IsOneFound (any_of ts) = ⊥
IsOneFound (without at r t) = ⊥

-- a place from which on no element of the list was passed
abbrev pub IsAhead : ℕ → List ℕ → ℕ → Type 0
IsAhead at list place = (z : ℕ) → Contains list z → at ≤ z → place ≤ z

abbrev pub AreAhead : ℕ → Trees → Type 0
AreAhead at none = Unit {0}
AreAhead at (more t ts) = IsAhead at (tree_list t) (tree_place t) × AreAhead at ts

-- a node that has begun stands at an element of its list, or at TOP
pub record IsStanding (list : List ℕ) (at : ℕ) : Type 0 where
  pub stands : 0 < at → IsPlace list at
  pub top : at ≤ TOP

-- Below TOP the trees of an intersection all stand where it does.
pub record IsAgreed (ts : Trees) (at : ℕ) : Type 0 where
  pub some : 0 < length (lists_of ts)
  pub standing : IsStanding (common (lists_of ts)) at
  pub same : at < TOP → All (λ p. p ≡ at) (places_of ts)

-- No tree of a union has passed an element from its place on.
pub record IsUnited (ts : Trees) (at : ℕ) : Type 0 where
  pub standing : IsStanding (union_of (lists_of ts)) at
  pub ahead : AreAhead at ts

-- A difference stands at its end, and neither the ends nor the tree have passed an element from there on.
pub record IsApart (r : Reading) (t : Tree) (at : ℕ) : Type 0 where
  pub standing : IsStanding (less r.list (tree_list t)) at
  pub rising : IsRising r.list
  pub first : r.place ≡ first_from r.list at
  pub here : 0 < at → r.place ≡ at
  pub ahead : IsAhead at (tree_list t) (tree_place t)

abbrev mutual
  -- what each tree keeps from its making on
  pub IsSoundTree : Tree → Type 0
  IsSoundTree (found w) = IsSoundWalk w
  IsSoundTree (all_of ts) = AreSoundTrees ts × IsAgreed ts (greatest_of (places_of ts))
  IsSoundTree (any_of ts) = AreSoundTrees ts × IsUnited ts (least_of (places_of ts))
  IsSoundTree (without at r t) = IsSoundTree t × IsApart r t at

  pub AreSoundTrees : Trees → Type 0
  AreSoundTrees none = Unit {0}
  AreSoundTrees (more t ts) = IsSoundTree t × AreSoundTrees ts

-- the tree went on to the first place of its list at or above `to`, or stayed where it stood there already
pub record IsBrought (old new : Tree) (to : ℕ) : Type 0 where
  pub goes : tree_place old < to → tree_place new ≡ first_from (tree_list old) to
  pub stays : to ≤ tree_place old → tree_place new ≡ tree_place old

-- the tree reads what it read and was brought to `to`, with the counter of steps before and after
pub record IsMoved (old new : Tree) (to before after : ℕ) : Type 0 where
  pub sound : IsSoundTree new
  pub list : tree_list new ≡ tree_list old
  pub all : tree_all new ≡ tree_all old
  pub depth : tree_depth new ≡ tree_depth old
  pub one : IsOneFound old → IsOneFound new
  pub place : IsBrought old new to
  pub left : tree_left new ≤ tree_left old
  pub falls : 0 < tree_place old → tree_place old < to → tree_left new < tree_left old
  pub steps : after + tree_left new ≤ before + tree_left old

abbrev mutual
  -- no reader was moved, and each intersection has a tree
  pub IsUnmoved : Tree → Type 0
  IsUnmoved (found w) = (w.at ≡ 0) × (w.places ≡ map (λ l. first_from l 0) w.lists) × (0 < length w.lists)
      × IsRising (list_at w.lists 0) × IsHeld (length w.lists) w.bounds
  IsUnmoved (all_of ts) = (0 < length (lists_of ts)) × AreUnmoved ts
  IsUnmoved (any_of ts) = AreUnmoved ts
  IsUnmoved (without at r t) = (at ≡ 0) × IsUnmoved t × (r.place ≡ first_from r.list 0) × IsRising r.list

  pub AreUnmoved : Trees → Type 0
  AreUnmoved none = Unit {0}
  AreUnmoved (more t ts) = IsUnmoved t × AreUnmoved ts
