use Rattle.std.proofs.Common.{◌∷◌, [], ◌++◌, ap, ◌∙◌}
use Rattle.alta_level.specs.Stored.{Stored}
use Rattle.alta_postings.specs.Deltas.{decoded_list}
use Rattle.alta_level.proofs.StreamGaps.{stream_gaps}
use Rattle.alta_joins.proofs.level.put_row.Goals as goal

pub put_spelled-requires : goal.put_spelled-requires
put_spelled-requires c =
    let list = c.stored-list.result in
    let whole = c.in-Ok.ensures.whole in
    (decoded_list list.stream.now, stream_gaps list.stream.now (decoded_list list.stream.now) list.count whole.coded.rising whole.coded.stream_is whole.fits.counted)

pub returns-in_ok-put_spelled-in-Ok-clause-put : goal.returns-in_ok-put_spelled-in-Ok-clause-put
returns-in_ok-put_spelled-in-Ok-clause-put c =
    let list = c.stored-list.result in
    let whole = c.in-Ok.ensures.whole in
    (c.in_ok-put_spelled-in-Ok.ensures (decoded_list list.stream.now) (stream_gaps list.stream.now (decoded_list list.stream.now) list.count whole.coded.rising whole.coded.stream_is whole.fits.counted)).pushed
    ∙ ap (λ (s : Stored). c.args.lists.now ++ (record { term = s.term; locations = decoded_list s.stream }) ∷ []) c.stored-list.ensures
