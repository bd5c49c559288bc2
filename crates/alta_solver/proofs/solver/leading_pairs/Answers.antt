use Rattle.std.proofs.Common.{ℕ, ◌+◌, ◌<◌, List, ⊎_elim, subst, refl, sym, arith}
use Rattle.alta_codec.specs.Inequality.{Inequality}
use Rattle.alta_solver.specs.Bounds.{IsPair}
use Rattle.alta_solver.proofs.Raised.{same_or_not}
use Rattle.alta_solver.proofs.solver.leading_pairs.Goals as goal

-- one more pair
one_more : (bounds : List Inequality) (pairs : ℕ) → ((m : ℕ) → m < pairs → IsPair bounds m) → IsPair bounds pairs → (m : ℕ) → m < pairs + 1 → IsPair bounds m
one_more bounds pairs before here m within =
    ⊎_elim (λ e. subst (λ k. IsPair bounds k) (sym e) here) (λ n. before m (omega (arith, n, within))) (same_or_not m pairs)

pub pairs-preserved : goal.pairs-preserved
pairs-preserved c = record { each = one_more _ _ c.pairs.invariant.each (c.if-is_pair.ensures refl) }
