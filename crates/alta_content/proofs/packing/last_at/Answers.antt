use Rattle.std.proofs.Common.{◌≡◌, ℕ, ◌+◌, ◌-◌, ◌%◌, ◌^◌, List, drop, sym, ap, ◌∙◌, arith}
use Rattle.alta_content.specs.Packed.{last_behind, locations_in, leading_number}
use Rattle.alta_content.proofs.Packs.{next_last}
use Rattle.alta_content.proofs.packing.last_at.Goals as goal

pub loop-preserved : goal.loop-preserved
loop-preserved c =
    let gaps = drop c.loop.at c.args.gaps.now in
    let left = c.args.count - c.loop.counter in
    let next = c.number_at-gap.result in
    let fewer : left - 1 ≡ c.args.count - (c.loop.counter + 1) = omega arith in
    record {
      at = c.number_at-gap.ensures.within;
      last = c.loop.invariant.last
          ∙ next_last left c.loop.location gaps (omega (arith, c.loop-test.true))
          ∙ ap (λ (r : ℕ). last_behind ((c.loop.location + r) % 2 ^ 64) (locations_in (left - 1) ((c.loop.location + r) % 2 ^ 64) (leading_number gaps).1)) (sym c.number_at-gap.ensures.number)
          ∙ ap (λ (r : List ℕ). last_behind ((c.loop.location + next.0) % 2 ^ 64) (locations_in (left - 1) ((c.loop.location + next.0) % 2 ^ 64) r)) (sym c.number_at-gap.ensures.behind)
          ∙ ap (λ (n : ℕ). last_behind ((c.loop.location + next.0) % 2 ^ 64) (locations_in n ((c.loop.location + next.0) % 2 ^ 64) (drop next.1 c.args.gaps.now))) fewer;
    }
