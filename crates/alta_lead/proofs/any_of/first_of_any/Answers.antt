use Rattle.std.proofs.Common.{◌≡◌, ◌-◌, ◌<◌, ◌≤◌, [], map, length, get_or, ap, ◌∙◌, arith}
use Rattle.std.proofs.lemmas.List.{length-map}
use Rattle.alta_codec.specs.Rising.{first_from}
use Rattle.alta_lead.proofs.AnyOf.{least_start, least_on, least_end}
use Rattle.alta_lead.proofs.Bringing.{bringing_starts, bringing_on, brought, same_length}
use Rattle.alta_lead.proofs.any_of.first_of_any.Goals as goal

pub loop-i-init : goal.loop-i-init
loop-i-init g c =
    let R = g.R.Reader in let os = c.args.words.now in
    record {
      bringing = bringing_starts R.sound R.list R.all R.location R.left R.cost os c.args.from (c.args.steps.now - c.args.steps.now) c.requires.sound c.requires.ahead (omega arith);
      first = least_start (map R.list os) c.args.from;
      top = omega arith;
    }

pub loop-i-preserved : goal.loop-i-preserved
loop-i-preserved g c =
    let R = g.R.Reader in let os = c.args.words.now in let ms = c.loop-i.words in let ns = c.bring.new.readers in let i = c.loop-i.i in
    let inv = c.loop-i.invariant in let b = inv.bringing in
    let within : i < length os = omega (arith, c.loop-i-test.true, same_length R.sound R.list R.all R.location R.left R.cost os ms b.lists) in
    let place : c.bring.result ≡ first_from (get_or (map R.list os) i []) c.args.from =
    c.bring.ensures.place ∙ ap (λ ls. first_from (get_or ls i []) c.args.from) b.lists in
    record {
      bringing = bringing_on R.sound R.list R.all R.location R.left R.cost os ms ns c.args.from i (c.loop-i.steps - c.args.steps.now) (c.bring.new.steps - c.loop-i.steps) (c.bring.new.steps - c.args.steps.now)
          within b c.bring.ensures.moved c.bring.ensures.ahead c.bring.ensures.own (omega arith);
      first = least_on (map R.list os) c.loop-i.least c.bring.result c.min-least.result c.args.from i (omega (arith, within, length-map os R.list)) place c.min-least.ensures inv.first;
      top = omega (arith, c.min-least.ensures, inv.top);
    }

pub returns-clause-place : goal.returns-clause-place
returns-clause-place g c =
    let R = g.R.Reader in let os = c.args.words.now in let inv = c.loop-i.invariant in
    let past : length (map R.list os) ≤ c.loop-i.i =
    omega (arith, c.loop-i-test.false, length-map os R.list, same_length R.sound R.list R.all R.location R.left R.cost os c.loop-i.words inv.bringing.lists) in
    least_end (map R.list os) c.loop-i.least c.args.from c.loop-i.i past inv.top inv.first

pub returns-clause-ahead : goal.returns-clause-ahead
returns-clause-ahead g c = c.loop-i.invariant.bringing.ahead

pub returns-clause-moved : goal.returns-clause-moved
returns-clause-moved g c =
    let R = g.R.Reader in let s = c.loop-i in
    brought R.sound R.list R.all R.location R.left R.cost c.args.words.now s.words c.args.from s.i (s.steps - c.args.steps.now) (s.steps - c.args.steps.now) s.invariant.bringing (omega arith)
