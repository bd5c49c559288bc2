use Rattle.std.proofs.Common.{subst, arith}
use Rattle.alta_codec.specs.Rising.{IsPlace}
use Rattle.alta_codec.proofs.Places.{first_from-is}
use Rattle.alta_docread.proofs.ends.Ends.reach.Goals as goal

pub returns-else-place-to-clause-location : goal.returns-else-place-to-clause-location
returns-else-place-to-clause-location g c =
    let e = c.args.self.now.inner in let p = c.place.ensures in let list = g.R.Reader.list e in let at = g.R.Reader.location e in
    first_from-is list c.args.to at (subst (λ v. IsPlace list v) p.value p.place) (omega (arith, p.value, p.top))
    (omega (arith, p.value, c.if-place-to.false)) c.requires.ahead
