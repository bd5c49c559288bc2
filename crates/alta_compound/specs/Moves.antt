-- What a move to a place does to several readers.
use Rattle.std.specs.Prelude.{◌≡◌, ℕ, ◌<◌, ◌≤◌, cond, nat_lt, List, length, slice_index_or, slice_set}
use Rattle.std.specs.List.Sorted.{IsPermutation}
use Rattle.alta_codec.specs.Rising.{first_from}

-- the reader went on to the first element of its list at or above a place
pub record GoesTo {R : Type 0} (list all : R → List ℕ) (location : R → ℕ) (to : ℕ) (old new : R) : Type 0 where
  pub same_list : list new ≡ list old
  pub same_all : all new ≡ all old
  pub place : location new ≡ first_from (list old) to

-- The new readers are the old ones, in another order: each that stood before the place went on to it, and each other
-- one is as it was.
pub record MovesThoseBefore {R : Type 0} (list all : R → List ℕ) (location : R → ℕ) (to : ℕ)
    (old new : List R) : Type 0 where
  pub from : List R
  pub ordered : IsPermutation old from
  pub sized : length from ≡ length new
  pub before : (k : ℕ) (d : R) → k < length new → location (slice_index_or from k d) < to
      → GoesTo list all location to (slice_index_or from k d) (slice_index_or new k d)
  pub behind : (k : ℕ) (d : R) → k < length new → to ≤ location (slice_index_or from k d)
      → slice_index_or new k d ≡ slice_index_or from k d

-- the first reader went on, and the readers were put into another order
pub record MovesFirst {R : Type 0} (list all : R → List ℕ) (location : R → ℕ) (to : ℕ) (old new : List R) : Type 0 where
  pub moved : R
  pub goes : (d : R) → GoesTo list all location to (slice_index_or old 0 d) moved
  pub ordered : IsPermutation (slice_set old 0 moved) new

-- what a reader's move costs where it stands before a place; another is not moved
abbrev pub cost_before : {R : Type 0} → (R → ℕ) → (R → ℕ) → ℕ → R → ℕ
cost_before cost location to r = cond (nat_lt (location r) to) (cost r) 0
