-- Heaps: the root is least, and a place that sinks below its children restores one.
use Rattle.std.proofs.Common.{◌≡◌, ◌≢◌, ◌⊎◌, ⊎_elim, inl, inr, ℕ, zero, suc, ◌+◌, ◌-◌, ◌*◌, ◌/◌, ◌<◌, ◌≤◌, List, [], ◌∷◌, map, length, get_or, set, refl, sym, ap, ◌∙◌, arith}
use Rattle.std.specs.Prelude.{sum_by}
use Rattle.std.specs.List.{SwappedAt}
use Rattle.std.specs.List.Sorted.{IsPermutation}
use Rattle.std.proofs.lemmas.Bool.{cases_lt}
use Rattle.std.proofs.lemmas.List.{get_or-map, length-map, get_or_past, length-set, get_or-set_other}
use Rattle.std.proofs.lemmas.List.Sorted.{sum_by-IsPermutation}
use Rattle.std.proofs.lemmas.List.Sums.{sum_by-set}
use Rattle.alta_codec.specs.declared.location.TheConstants.{TOP}
use Rattle.alta_compound.specs.Heap.{IsHeapFrom}
use Rattle.alta_compound.specs.Union.{least_of}

pub same_or_not : (i j : ℕ) → (i ≡ j) ⊎ (i ≢ j)
same_or_not i j = ⊎_elim (λ l. inr (λ e. omega arith)) (λ ge. ⊎_elim (λ l. inr (λ e. omega arith)) (λ le. inl (omega arith)) (cases_lt j i)) (cases_lt i j)

-- a heap from `low` on, but that the place at `hole` may be above its children
pub record IsHeapBut (low hole : ℕ) (xs : List ℕ) : Type 0 where
  pub edges : (p c : ℕ) → low ≤ p → p ≢ hole → 2 * p < c → c ≤ 2 * p + 2 → c < length xs → get_or xs p 0 ≤ get_or xs c 0
  pub through : (p c : ℕ) → low ≤ p → 2 * p < hole → hole ≤ 2 * p + 2 → 2 * hole < c → c ≤ 2 * hole + 2 → c < length xs
      → get_or xs p 0 ≤ get_or xs c 0

-- the places at a and b changed hands
pub record IsSwap (xs ys : List ℕ) (a b : ℕ) : Type 0 where
  pub sized : length ys ≡ length xs
  pub first : get_or ys a 0 ≡ get_or xs b 0
  pub second : get_or ys b 0 ≡ get_or xs a 0
  pub others : (k : ℕ) → k ≢ a → k ≢ b → get_or ys k 0 ≡ get_or xs k 0

pub but_step : (low at child : ℕ) (xs ys : List ℕ) → IsHeapBut low at xs → low ≤ at → 2 * at < child → child ≤ 2 * at + 2 → child < length xs
    → get_or xs child 0 ≤ get_or xs at 0 → ((c : ℕ) → 2 * at < c → c ≤ 2 * at + 2 → c < length xs → get_or xs child 0 ≤ get_or xs c 0)
    → IsSwap xs ys at child → IsHeapBut low child ys
but_step low at child xs ys h from below near within above least s =
    let second = s.second in let first = s.first in
    record {
      edges = λ p c l n a b w.
          let inside : c < length xs = omega (arith, s.sized) in
          ⊎_elim
          (λ e. ⊎_elim (λ d. omega (arith, first, second, ap (λ i. get_or ys i 0) e, ap (λ i. get_or ys i 0) d))
          (λ d. omega (arith, first, ap (λ i. get_or ys i 0) e, s.others c (λ q. omega arith) d, least c (omega arith) (omega arith) inside))
          (same_or_not c child))
          (λ e. let here : get_or ys p 0 ≡ get_or xs p 0 = s.others p e n in
          ⊎_elim (λ d. omega (arith, here, first, ap (λ i. get_or ys i 0) d, h.through p child l (omega arith) (omega arith) below near within))
          (λ d. ⊎_elim (λ q. absurd (omega arith)) (λ q. omega (arith, here, s.others c d q, h.edges p c l e a b inside)) (same_or_not c child))
          (same_or_not c at))
          (same_or_not p at);
      through = λ p c l a b d e w.
          let same : p ≡ at = omega arith in
          omega (arith, first, ap (λ i. get_or ys i 0) same, s.others c (λ q. omega arith) (λ q. omega arith), h.edges child c (omega arith) (λ q. omega arith) d e (omega (arith, s.sized)));
    }

-- the root is at most each place
heap_root : (n i : ℕ) (xs : List ℕ) → i ≤ n → i < length xs → IsHeapFrom 0 xs → get_or xs 0 0 ≤ get_or xs i 0
heap_root zero i xs h w heap = let e : i ≡ 0 = omega arith in omega (arith, ap (λ k. get_or xs k 0) e)
heap_root (suc n) i xs h w heap =
    ⊎_elim
    (λ pos. let p = (i - 1) / 2 in
    omega (arith, heap_root n p xs (omega arith) (omega arith) heap, heap p i (omega arith) (omega arith, omega arith) w))
    (λ none. let e : i ≡ 0 = omega arith in omega (arith, ap (λ k. get_or xs k 0) e))
    (cases_lt 0 i)

le_least_of : (xs : List ℕ) (t : ℕ) → t ≤ TOP → ((i : ℕ) → i < length xs → t ≤ get_or xs i 0) → t ≤ least_of xs
le_least_of [] t top h = top
le_least_of (x ∷ xs) t top h = omega (arith, h zero (omega arith), le_least_of xs t top (λ i l. h (suc i) (omega arith)))

pub root_least : (xs : List ℕ) → IsHeapFrom 0 xs → ((i : ℕ) → i < length xs → get_or xs i 0 ≤ TOP) → get_or xs 0 TOP ≡ least_of xs
root_least [] heap top = refl
root_least (x ∷ xs) heap top =
    omega (arith, le_least_of xs x (top zero (omega arith)) (λ i l. heap_root (suc i) (suc i) (x ∷ xs) (omega arith) (omega arith) heap))

-- some element of a list that has one
pub some_of : {X : Type 0} (xs : List X) → 0 < length xs → X
some_of [] h = absurd (omega arith)
some_of (x ∷ xs) h = x

pub mapped_swap : {R : Type 0} (h : R → ℕ) (xs ys : List R) (a b : ℕ) → a < length xs → b < length xs → length ys ≡ length xs
    → SwappedAt xs ys a b → IsSwap (map h xs) (map h ys) a b
mapped_swap h xs ys a b la lb size s =
    let d = some_of xs (omega arith) in
    record {
      sized = length-map ys h ∙ size ∙ sym (length-map xs h);
      first = get_or-map h ys a d 0 (omega arith) ∙ ap h (s.0 d) ∙ sym (get_or-map h xs b d 0 lb);
      second = get_or-map h ys b d 0 (omega arith) ∙ ap h (s.1 d) ∙ sym (get_or-map h xs a d 0 la);
      others = λ k na nb.
          ⊎_elim (λ l. get_or-map h ys k d 0 l ∙ ap h (s.2 k d na nb) ∙ sym (get_or-map h xs k d 0 (omega arith)))
          (λ g. get_or_past (map h ys) k 0 (omega (arith, length-map ys h)) ∙ sym (get_or_past (map h xs) k 0 (omega (arith, length-map xs h))))
          (cases_lt k (length ys));
    }

-- where the first place changes, the rest stays a heap
pub heap_but_first : (xs : List ℕ) (y : ℕ) → IsHeapFrom 0 xs → IsHeapFrom 1 (set xs 0 y)
heap_but_first xs y h = λ p c l t w.
    omega (
      arith,
      get_or-set_other xs 0 p y 0 (λ q. omega arith),
      get_or-set_other xs 0 c y 0 (λ q. omega (arith, t.0)),
      h p c (omega arith) t (omega (arith, length-set xs 0 y)),
    )

-- what is left in all, where the first reader moved and the order changed
pub left_after : {R : Type 0} (left : R → ℕ) (old new : List R) (moved d : R) → 0 < length old → IsPermutation (set old 0 moved) new
    → sum_by left new + left (get_or old 0 d) ≡ sum_by left old + left moved
left_after left old new moved d some p =
    omega (arith, sum_by-IsPermutation left (set old 0 moved) new p, sum_by-set left old 0 moved d some)
