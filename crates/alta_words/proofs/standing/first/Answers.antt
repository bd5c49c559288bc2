use Rattle.std.proofs.Common.{refl}
use Rattle.alta_postings.specs.Deltas.{decoded_list}
use Rattle.alta_words.proofs.Stands.{read_none, stands_at, stands_past}
use Rattle.alta_words.proofs.standing.first.Goals as goal

pub next-requires : goal.next-requires
next-requires c = record { behind = (0, read_none (decoded_list c.args.stream.now)) }

pub returns-in-Some : goal.returns-in-Some
returns-in-Some c =
    let list = decoded_list c.args.stream.now in
    stands_at list 0 0 c.in-Some.at c.in-Some.place refl (c.in-Some.ensures.next 0 (read_none list))

pub returns-in-None : goal.returns-in-None
returns-in-None c =
    let list = decoded_list c.args.stream.now in
    stands_past list 0 0 0 refl (c.in-None.ensures.none refl 0 (read_none list))
