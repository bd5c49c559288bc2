-- Steps in figures.
use Rattle.std.proofs.Common.{◌≡◌, ℕ, ◌+◌, ◌*◌, ◌≤◌, subst, sym, arith}

pub in_figures : (after before r n s m : ℕ) → r ≡ s → n ≡ m → after ≤ before + r * (2 * n + 4) → after ≤ before + s * (2 * m + 4)
in_figures after before r n s m e f h =
    subst (λ x. after ≤ before + x * (2 * m + 4)) e (subst (λ y. after ≤ before + r * (2 * y + 4)) f h)
