use Rattle.std.proofs.Common.{arith}
use Rattle.alta_codec.proofs.Places.{place-le_top}
use Rattle.alta_lead.proofs.Bringing.{ahead_first}
use Rattle.alta_lead.proofs.chains.reach.Goals as goal

pub returns-then-here-to-clause-place : goal.returns-then-here-to-clause-place
returns-then-here-to-clause-place g c =
    let list = g.R.Reader.list c.args.ends.now.inner in let place = c.loc-here.ensures.place in
    let same = c.loc-here.ensures.location in
    ahead_first list c.loc-here.result c.args.to place
    (place-le_top list c.loc-here.result (g.met.R.Reader.rises c.args.ends.now.inner c.requires.sound) place) (omega (arith, c.if-here-to.true))
    (λ z m h. omega (arith, same, c.requires.ahead z m h))
