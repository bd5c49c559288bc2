use Rattle.std.proofs.Common.{◌+◌, ◌-◌, ◌≤◌, [], map, get_or, ap, arith, below_more}
use Rattle.alta_codec.specs.Rising.{first_from}
use Rattle.alta_lead.proofs.Bringing.{bringing_on, brought, same_length}
use Rattle.alta_lead.proofs.chains.lacking.Goals as goal

pub returns-then-place-end-clause-moved : goal.returns-then-place-end-clause-moved
returns-then-place-end-clause-moved g c =
    let R = g.R.Reader in let os = c.args.readers.now in let ms = c.loop-i.readers in let ns = c.bring-place.new.readers in let i = c.loop-i.i in
    let b = c.loop-i.invariant.bringing in
    brought R.sound R.list R.all R.location R.left R.cost os ns c.args.start (i + 1) (c.bring-place.new.steps - c.args.steps.now) (c.bring-place.new.steps - c.args.steps.now)
    (bringing_on R.sound R.list R.all R.location R.left R.cost os ms ns c.args.start i (c.loop-i.steps - c.args.steps.now) (c.bring-place.new.steps - c.loop-i.steps) (c.bring-place.new.steps - c.args.steps.now)
    (omega (arith, same_length R.sound R.list R.all R.location R.left R.cost os ms b.lists)) b c.bring-place.ensures.moved c.bring-place.ensures.ahead c.bring-place.ensures.own (omega arith)) (omega arith)

pub loop-i-preserved : goal.loop-i-preserved
loop-i-preserved g c =
    let R = g.R.Reader in let os = c.args.readers.now in let ms = c.loop-i.readers in let ns = c.bring-place.new.readers in let i = c.loop-i.i in
    let b = c.loop-i.invariant.bringing in
    record {
      bringing = bringing_on R.sound R.list R.all R.location R.left R.cost os ms ns c.args.start i (c.loop-i.steps - c.args.steps.now) (c.bring-place.new.steps - c.loop-i.steps) (c.bring-place.new.steps - c.args.steps.now)
          (omega (arith, same_length R.sound R.list R.all R.location R.left R.cost os ms b.lists)) b c.bring-place.ensures.moved c.bring-place.ensures.ahead c.bring-place.ensures.own (omega arith);
      passed = below_more (λ k. first_from (get_or (map R.list os) k []) c.args.start ≤ c.args.end) i c.loop-i.invariant.passed
          (omega (arith, c.bring-place.ensures.place, ap (λ ls. first_from (get_or ls i []) c.args.start) b.lists, c.if-place-end.false));
    }
