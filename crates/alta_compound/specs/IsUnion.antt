-- What a reader of a union keeps.
use Rattle.std.specs.Prelude.{◌≡◌, ℕ, map, List}
use Rattle.alta_codec.specs.Rising.{pred_of}
use Rattle.alta_compound.specs.Heap.{IsHeapFrom}
use Rattle.alta_compound.specs.Union.{union_of, IsInStep}

-- Each reader stands at the first element of its list from `at` on, which is the least of their places. The readers
-- are a heap by place, and `before` is the last element of the union below `at`.
pub record IsUnion {R : Type 0} (list : R → List ℕ) (location : R → ℕ) (readers : List R) (at before : ℕ) : Type 0 where
  pub in_step : IsInStep list location readers at
  pub heap : IsHeapFrom 0 (map location readers)
  pub last : before ≡ pred_of (union_of (map list readers)) at
