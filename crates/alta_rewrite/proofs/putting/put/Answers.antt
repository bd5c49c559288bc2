use Rattle.std.proofs.Common.{arith}
use Rattle.alta_rewrite.proofs.PutLaws.{puts_closed, run_put}
use Rattle.alta_rewrite.proofs.putting.put.Goals as goal

pub returns-in_err-close_half-clause-images : goal.returns-in_err-close_half-clause-images
returns-in_err-close_half-clause-images g c = run_put _ _ _ c.args.slot c.args.pieces.now c.write_pieces.ensures.images c.close_half.ensures.images

pub returns-clause-put : goal.returns-clause-put
returns-clause-put g c = λ told.
    let (taken, laid) = c.requires.laid told in
    let old = g.D.Disk.state c.args.disk.now in
    let now = g.D.Disk.state c.write_pieces.new.disk in
    let then = g.D.Disk.state c.close_half.new.disk in
    let lawful = g.met.D.Disk.lawful c.close_half.new.disk in
    puts_closed c.args.slot taken _ c.args.pieces.now _ (c.requires.whole told) laid _ (c.in_ok-write_pieces.ensures.written told) _
    (c.in_ok-close_half.ensures.written told)
    (λ version. c.in_ok-close_half.ensures.empty version told)
    (lawful.bytes then.clock then.content (lawful.counts_now then.clock then.content (omega arith) (lawful.present told)))

pub returns-clause-images : goal.returns-clause-images
returns-clause-images g c = run_put _ _ _ c.args.slot c.args.pieces.now c.write_pieces.ensures.images c.close_half.ensures.images
