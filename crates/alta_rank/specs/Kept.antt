-- What is kept of the best answers and one more, and which answers are the best.
use Rattle.std.specs.Prelude.{◌≡◌, ℕ, ◌<◌, ◌≤◌, Bool, ◌||◌, nat_lt, min, List, [], ◌∷◌, ◌++◌, length, All, Contains, true, false}
use Rattle.std.specs.List.{list_any}
use Rattle.std.specs.List.Sorted.{IsPermutation}
use Rattle.std.specs.Ordering.{is_lt}
use Rattle.alta_machine.specs.Ranked.{by_rank}
use Rattle.alta_machine.specs.declared.scored.Scored.{Scored}

-- The answer comes before none of the best, which stay; or it takes the place of the last of them, which it comes before.
pub data Replaces (old : List Scored) (answer : Scored) (new : List Scored) : Type 0 where
  left_out : new ≡ old → All (λ b. is_lt (by_rank answer b) ≡ false) old → Replaces old answer new
  taken_in : (last : Scored) → (rest : List Scored) → IsPermutation old (last ∷ rest)
      → IsPermutation (answer ∷ rest) new
      → is_lt (by_rank answer last) ≡ true → All (λ b. is_lt (by_rank last b) ≡ false) old → Replaces old answer new

-- It joins them while they are fewer than `count`.
pub data Keeps (count : ℕ) (old : List Scored) (answer : Scored) (new : List Scored) : Type 0 where
  joined : length old < count → IsPermutation (answer ∷ old) new → Keeps count old answer new
  replaced : count ≤ length old → Replaces old answer new → Keeps count old answer new

-- how many answers are kept at most, and those that are
pub record KeptOf : Type 0 where
  pub count : ℕ
  pub kept : List Scored

-- whether an answer of this number and score would be kept: fewer are than may be, or it comes before one of those
abbrev pub has_place : KeptOf → ℕ → ℕ → Bool
has_place best number score =
    nat_lt (length best.kept) best.count || list_any
    (λ b. is_lt (by_rank (record { number = number; name = []; score = score }) b)) best.kept

-- These are the first `count` of all: there are no more, and none of those that were dropped comes before one of them.
pub record IsBest (count : ℕ) (every kept : List Scored) : Type 0 where
  pub dropped : List Scored
  pub same : IsPermutation every (kept ++ dropped)
  pub size : length kept ≡ min count (length every)
  pub behind : (a b : Scored) → Contains kept a → Contains dropped b → is_lt (by_rank b a) ≡ false
