use Rattle.std.proofs.Common.{map, refl, arith}
use Rattle.alta_codec.specs.Rising.{first_from}
use Rattle.alta_compound.specs.Union.{union_of}
use Rattle.alta_lead.proofs.AnyOf.{led_any}
use Rattle.alta_lead.proofs.Tallying.{led_bounds}
use Rattle.alta_lead.proofs.any_of.document.Goals as goal

pub reach-requires-clause-ahead : goal.reach-requires-clause-ahead
reach-requires-clause-ahead g c = λ z m h.
    let E = g.E.Reader.list c.args.ends.now.inner in let at = c.first_of_any-at.result in
    let b = led_bounds E (union_of (map g.R.Reader.list c.args.words.now)) c.args.from at (first_from E at) c.requires.top c.requires.begins c.first_of_any-at.ensures.place refl in
    c.requires.ends_ahead z m (omega (arith, h, b.0))

pub reach-requires-clause-top : goal.reach-requires-clause-top
reach-requires-clause-top g c =
    let E = g.E.Reader.list c.args.ends.now.inner in let at = c.first_of_any-at.result in
    (led_bounds E (union_of (map g.R.Reader.list c.args.words.now)) c.args.from at (first_from E at) c.requires.top c.requires.begins c.first_of_any-at.ensures.place refl).1

pub returns : goal.returns
returns g c =
    let X = g.E.Reader in let R = g.R.Reader in let w = c.first_of_any-at in let r = c.reach in
    led_any X.sound X.list X.all X.location X.left X.cost R.sound R.list R.all R.location R.left R.cost c.args.ends.now.inner r.new.ends.inner c.args.words.now w.new.words
    c.args.from w.result r.result c.args.steps.now w.new.steps r.new.steps (g.met.E.Reader.rises c.args.ends.now.inner c.requires.ends) c.requires.top c.requires.begins
    w.ensures.place w.ensures.ahead w.ensures.moved r.ensures.place r.ensures.location r.ensures.moved
