use Rattle.std.proofs.Common.{◌+◌, List, ℕ, Fits, zero-add, sym, subst, ap, ◌∙◌, arith, w16}
use Rattle.std.proofs.lemmas.Simd.{sum_fits, sum_bound, fold-sum, bytes_below}
use lib.Lanes.{Steps, fold_l, sum_l}
use Rattle.alta_postings.proofs.Tally.{itself}
use Rattle.alta_postings.proofs.lanes.lane_sum.Goals as goal

pub overflow_add-lanes : goal.overflow_add-lanes
overflow_add-lanes c =
    let xs = c.args.lanes in
    subst (λ (l : List ℕ). Steps (λ (s x : ℕ). Fits w16 (s + x)) (λ (s x : ℕ). s + x) 0 l) (sym (itself xs)) (sum_fits w16 0 xs (omega (arith, sum_bound 255 xs (bytes_below xs c.fits-lanes.1), c.fits-lanes.0)))

pub returns-clause-sum : goal.returns-clause-sum
returns-clause-sum c = c.from.ensures ∙ ap (λ (l : List ℕ). fold_l (λ (s x : ℕ). s + x) 0 l) (itself c.args.lanes) ∙ fold-sum 0 c.args.lanes ∙ zero-add (sum_l c.args.lanes)

pub returns-clause-low : goal.returns-clause-low
returns-clause-low c = omega (arith, returns-clause-sum c, sum_bound 255 c.args.lanes (bytes_below c.args.lanes c.fits-lanes.1), c.fits-lanes.0)
