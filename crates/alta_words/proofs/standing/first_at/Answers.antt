use Rattle.std.proofs.Common.{refl, arith}
use Rattle.alta_postings.specs.Deltas.{decoded_list}
use Rattle.alta_words.proofs.Stands.{way_ends, way_has_more}
use Rattle.alta_words.proofs.standing.first_at.Goals as goal

pub returns-in-None : goal.returns-in-None
returns-in-None c =
    let list = decoded_list c.args.stream.now in
    let s = c.numbers.standing in
    absurd (
    omega (
      arith,
      way_has_more list c.args.to s.before s.place s.at c.numbers.invariant c.requires.rising c.numbers-test.true c.requires.there
          (c.in-None.ensures.none refl c.numbers.invariant.read c.numbers.invariant.behind),
    )
    )

pub returns : goal.returns
returns c =
    let e = way_ends (decoded_list c.args.stream.now) c.args.to c.numbers.standing c.numbers.invariant c.requires.rising (omega (arith, c.numbers-test.false)) c.requires.top in
    record { stands = e.0; at = e.1 }
