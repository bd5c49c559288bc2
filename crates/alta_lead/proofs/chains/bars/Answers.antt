use Rattle.std.proofs.Common.{◌+◌, ◌-◌, ◌<◌, [], map, get_or, ap, arith, below_more}
use Rattle.alta_codec.specs.Rising.{first_from}
use Rattle.alta_lead.proofs.Bringing.{bringing_on, brought, same_length}
use Rattle.alta_lead.proofs.chains.bars.Goals as goal

pub returns-then-bring-end-clause-moved : goal.returns-then-bring-end-clause-moved
returns-then-bring-end-clause-moved g c =
    let R = g.R.Reader in let os = c.args.readers.now in let ms = c.loop-i.readers in let ns = c.bring.new.readers in let i = c.loop-i.i in
    let b = c.loop-i.invariant.bringing in
    brought R.sound R.list R.all R.location R.left R.cost os ns c.args.start (i + 1) (c.bring.new.steps - c.args.steps.now) (c.bring.new.steps - c.args.steps.now)
    (bringing_on R.sound R.list R.all R.location R.left R.cost os ms ns c.args.start i (c.loop-i.steps - c.args.steps.now) (c.bring.new.steps - c.loop-i.steps) (c.bring.new.steps - c.args.steps.now)
    (omega (arith, same_length R.sound R.list R.all R.location R.left R.cost os ms b.lists)) b c.bring.ensures.moved c.bring.ensures.ahead c.bring.ensures.own (omega arith)) (omega arith)

pub loop-i-preserved : goal.loop-i-preserved
loop-i-preserved g c =
    let R = g.R.Reader in let os = c.args.readers.now in let ms = c.loop-i.readers in let ns = c.bring.new.readers in let i = c.loop-i.i in
    let b = c.loop-i.invariant.bringing in
    record {
      bringing = bringing_on R.sound R.list R.all R.location R.left R.cost os ms ns c.args.start i (c.loop-i.steps - c.args.steps.now) (c.bring.new.steps - c.loop-i.steps) (c.bring.new.steps - c.args.steps.now)
          (omega (arith, same_length R.sound R.list R.all R.location R.left R.cost os ms b.lists)) b c.bring.ensures.moved c.bring.ensures.ahead c.bring.ensures.own (omega arith);
      passed = below_more (λ k. c.args.end < first_from (get_or (map R.list os) k []) c.args.start) i c.loop-i.invariant.passed
          (omega (arith, c.bring.ensures.place, ap (λ ls. first_from (get_or ls i []) c.args.start) b.lists, c.if-bring-end.false));
    }
