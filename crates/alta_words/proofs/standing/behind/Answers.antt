use Rattle.std.proofs.Common.{◌+◌, refl}
use Rattle.alta_postings.specs.Deltas.{decoded_list}
use Rattle.alta_words.proofs.Stands.{behind_low, stands_at, stands_past}
use Rattle.alta_words.proofs.standing.behind.Goals as goal

pub next-requires : goal.next-requires
next-requires c =
    let (i, x) = c.requires.stands in record { behind = (i + 1, behind_low (decoded_list c.args.stream.now) i c.args.from x c.requires.below) }

pub returns-in-Some : goal.returns-in-Some
returns-in-Some c = λ i x.
    let list = decoded_list c.args.stream.now in
    let b = behind_low list i c.args.from x c.requires.below in
    stands_at list (i + 1) c.args.from.at c.in-Some.at c.in-Some.place b.last_is (c.in-Some.ensures.next (i + 1) b)

pub returns-in-None : goal.returns-in-None
returns-in-None c = λ i x.
    let list = decoded_list c.args.stream.now in
    let b = behind_low list i c.args.from x c.requires.below in
    stands_past list (i + 1) c.args.from.at c.args.from.place b.last_is (c.in-None.ensures.none refl (i + 1) b)
