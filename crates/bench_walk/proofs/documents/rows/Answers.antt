use Rattle.bench_walk.proofs.Keys.{put_row}
use Rattle.bench_walk.proofs.documents.rows.Goals as goal

pub loop-line-preserved : goal.loop-line-preserved
loop-line-preserved c =
    put_row c.loop-line.rows.items c.push.new.self.items c.in_ok-row.row c.loop-line.first c.in_ok-push.ensures.items
    c.in_ok-row.ensures.first c.in_ok-row.ensures.some c.in_ok-row.ensures.within c.loop-line.invariant
