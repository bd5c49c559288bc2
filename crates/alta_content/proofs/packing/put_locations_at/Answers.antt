use Rattle.std.proofs.Common.{ℕ, ◌+◌, ◌-◌, ◌%◌, ◌^◌, ◌++◌, ◌∷◌, [], List, drop, sym, ap, ◌∙◌, arith}
use Rattle.alta_content.specs.Packed.{locations_in, leading_number}
use Rattle.alta_content.proofs.Packs.{next_location}
use Rattle.alta_content.proofs.packing.put_locations_at.Goals as goal

pub loop-preserved : goal.loop-preserved
loop-preserved c =
    let gaps = drop c.loop.at c.args.gaps.now in
    let left = c.args.count - c.loop.counter in
    let next = c.number_at-gap.result in
    record {
      at = c.number_at-gap.ensures.within;
      all = c.loop.invariant.all
          ∙ next_location c.loop.all.items left c.loop.location gaps (omega (arith, c.loop-test.true))
          ∙ ap (λ (r : ℕ). (c.loop.all.items ++ ((c.loop.location + r) % 2 ^ 64) ∷ []) ++ locations_in (left - 1) ((c.loop.location + r) % 2 ^ 64) (leading_number gaps).1) (sym c.number_at-gap.ensures.number)
          ∙ ap (λ (r : List ℕ). (c.loop.all.items ++ ((c.loop.location + next.0) % 2 ^ 64) ∷ []) ++ locations_in (left - 1) ((c.loop.location + next.0) % 2 ^ 64) r) (sym c.number_at-gap.ensures.behind)
          ∙ ap (λ (n : ℕ). (c.loop.all.items ++ ((c.loop.location + next.0) % 2 ^ 64) ∷ []) ++ locations_in n ((c.loop.location + next.0) % 2 ^ 64) (drop next.1 c.args.gaps.now)) (omega arith)
          ∙ ap (λ (xs : List ℕ). xs ++ locations_in (c.args.count - (c.loop.counter + 1)) ((c.loop.location + next.0) % 2 ^ 64) (drop next.1 c.args.gaps.now)) (sym c.in_ok-push.ensures.items);
    }
