use Rattle.std.proofs.Common.{◌≡◌, sym, subst, ap, ◌∙◌, arith}
use Rattle.std.specs.Prelude.{IfOk}
use Rattle.alta_counts.specs.Live.{count_live}
use Rattle.alta_search.specs.Walks.{PlanView, IsReading}
use Rattle.alta_counts.proofs.tallies.tally.Goals as goal

pub returns-in-Ok-clause-count : goal.returns-in-Ok-clause-count
returns-in-Ok-clause-count g c =
    subst (λ (v : PlanView). IfOk c.tally_led.result (λ n. n ≡ count_live v.list c.args.gone.now v.place)) (sym c.in-Ok.ensures.led) c.tally_led.ensures.count

pub returns-in-Ok-clause-steps : goal.returns-in-Ok-clause-steps
returns-in-Ok-clause-steps g c = omega (arith, c.tally_led.ensures.steps, ap (λ (v : PlanView). v.left) c.in-Ok.ensures.led)

pub returns-in-Ok-clause-moves : goal.returns-in-Ok-clause-moves
returns-in-Ok-clause-moves g c = omega (arith, c.tally_led.ensures.moves, ap (λ (v : PlanView). v.moves) c.in-Ok.ensures.led)

pub tally_each-requires-clause-stands : goal.tally_each-requires-clause-stands
tally_each-requires-clause-stands g c = subst IsReading (sym c.in-Err.ensures.other) c.requires.stands

pub returns-in-Err-clause-count : goal.returns-in-Err-clause-count
returns-in-Err-clause-count g c = c.tally_each.ensures.count ∙ ap (λ (v : PlanView). count_live v.list c.args.gone.now v.place) c.in-Err.ensures.other

pub returns-in-Err-clause-steps : goal.returns-in-Err-clause-steps
returns-in-Err-clause-steps g c = omega (arith, c.tally_each.ensures.steps, ap (λ (v : PlanView). v.left) c.in-Err.ensures.other)

pub returns-in-Err-clause-moves : goal.returns-in-Err-clause-moves
returns-in-Err-clause-moves g c = omega (arith, c.tally_each.ensures.moves, ap (λ (v : PlanView). v.moves) c.in-Err.ensures.other)
