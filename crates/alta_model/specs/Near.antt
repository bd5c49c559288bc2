-- The last places of two tests, step by step. No public clause cites it.
use Rattle.std.specs.Prelude.{ℕ, ◌+◌, ◌≤◌, ◌<◌, Bool, false, ◌&&◌, nat_le, List, Option, Some, None}
use Rattle.alta_machine.specs.Patterns.{IsMet}
use Rattle.alta_machine.specs.declared.test.Test.{Test}

abbrev pub is_close : Option ℕ → Option ℕ → ℕ → Bool
is_close None right distance = false
is_close (Some left) None distance = false
is_close (Some left) (Some right) distance = nat_le left (right + distance) && nat_le right (left + distance)

-- the last place below `end` at which the test is met
abbrev pub IsLast : List (List (List ℕ)) → Test → ℕ → Option ℕ → Type 0
IsLast cells test end None = (p : ℕ) → p < end → ¬ (IsMet cells test p)
IsLast cells test end (Some last) = (last < end) × IsMet cells test last
    × ((p : ℕ) → last < p → p < end → ¬ (IsMet cells test p))

-- no two places below `end` are close
abbrev pub AreApart : List (List (List ℕ)) → Test → ℕ → Test → ℕ → Type 0
AreApart cells left distance right end =
    (p q : ℕ) → p < end → q < end → IsMet cells left p → IsMet cells right q → p ≤ q + distance → q ≤ p + distance → ⊥
