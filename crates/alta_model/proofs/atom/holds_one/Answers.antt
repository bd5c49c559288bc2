use Rattle.std.proofs.Common.{◌≡◌, ⊎_elim, inr, ℕ, ◌+◌, ◌<◌, Bool, false, List, ◌∷◌, length, drop, get_or, map, sym, ap, subst, ◌∙◌, add-one}
use Rattle.std.specs.Prelude.{◌↔◌, IsTrue}
use Rattle.std.proofs.Math.Seq.{drop-cons}
use Rattle.alta_machine.specs.Patterns.{Satisfies, SatisfiesOne, range_pattern}
use Rattle.alta_machine.specs.declared.range.Range.{Range}
use Rattle.alta_model.proofs.atom.holds_one.Goals as goal

-- a range that the cells do not satisfy changes nothing
rest_same : (cells : List (List (List ℕ))) (ranges : List Range) (i : ℕ) (r : Range) (b : Bool) → i < length ranges → b ≡ false → IsTrue b ↔ Satisfies cells (range_pattern (get_or ranges i r))
    → SatisfiesOne cells (map range_pattern (drop i ranges)) ↔ SatisfiesOne cells (map range_pattern ranges)
    → SatisfiesOne cells (map range_pattern (drop (i + 1) ranges)) ↔ SatisfiesOne cells (map range_pattern ranges)
rest_same cells ranges i r b within failed tells same =
    let e : drop i ranges ≡ get_or ranges i r ∷ drop (i + 1) ranges = drop-cons ranges i r within ∙ ap (λ (n : ℕ). get_or ranges i r ∷ drop n ranges) (sym (add-one i)) in (
      λ later. same.0 (subst (λ (rs : List Range). SatisfiesOne cells (map range_pattern rs)) (sym e) (inr later)),
      λ some. ⊎_elim (λ here. absurd (cc (tells.1 here, failed))) (λ later. later) (subst (λ (rs : List Range). SatisfiesOne cells (map range_pattern rs)) e (same.1 some)),
    )

pub loop-range-preserved : goal.loop-range-preserved
loop-range-preserved c =
    rest_same c.args.cells.now c.args.ranges.now c.loop-range.range-index _ c.holds_range.result c.loop-range-test.true c.if-holds_range.false c.holds_range.ensures c.loop-range.invariant
