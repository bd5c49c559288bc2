use Rattle.std.proofs.Common.{[], map, get_or, sym, subst, arith}
use Rattle.std.proofs.lemmas.List.{length-map}
use Rattle.alta_lead.specs.Moves.{AreAhead}
use Rattle.alta_lead.proofs.Bringing.{cost_at, sum_at, ahead_first, ahead_set}
use Rattle.alta_lead.proofs.chains.bring.Goals as goal

pub returns-then-here-to-clause-ahead : goal.returns-then-here-to-clause-ahead
returns-then-here-to-clause-ahead g c =
    let rs = c.args.readers.now in let lists = map g.R.Reader.list rs in let places = map g.R.Reader.location rs in
    subst (λ ps. AreAhead c.args.to lists ps) (sym c.seek_at.ensures.moves.moved.places)
    (ahead_set lists places c.args.j c.args.to (omega (arith, c.requires.within, length-map rs g.R.Reader.location)) c.requires.ahead)

pub returns-then-here-to-clause-moved : goal.returns-then-here-to-clause-moved
returns-then-here-to-clause-moved g c =
    let e = c.seek_at.ensures in let list = g.R.Reader.list in let rs = c.args.readers.now in let j = c.args.j in
    record {
      sound = e.moves.sound;
      lists = e.moves.moved.lists;
      alls = e.moves.moved.alls;
      steps = omega (arith, e.moves.steps, e.moves.falls);
      each = λ of h. omega (arith, e.cost, cost_at list g.R.Reader.cost of rs j h c.requires.within, sum_at list of rs j c.requires.within);
    }

pub returns-then-here-to-clause-own : goal.returns-then-here-to-clause-own
returns-then-here-to-clause-own g c = λ of h.
    omega (arith, c.seek_at.ensures.cost, cost_at g.R.Reader.list g.R.Reader.cost of c.args.readers.now c.args.j h c.requires.within)

pub returns-else-here-to-clause-place : goal.returns-else-here-to-clause-place
returns-else-here-to-clause-place g c =
    let rs = c.args.readers.now in let lists = map g.R.Reader.list rs in let p = c.place_at-here.ensures in
    ahead_first (get_or lists c.args.j []) c.place_at-here.result c.args.to p.place p.top (omega (arith, c.if-here-to.false))
    (λ z m h. omega (arith, p.value, c.requires.ahead c.args.j (omega (arith, c.requires.within, length-map rs g.R.Reader.list)) z m h))
