use Rattle.std.proofs.Common.{arith}
use Rattle.alta_joins.proofs.MergeSteps.{rows_many}
use Rattle.alta_joins.proofs.merging.fill_one.Goals as goal

pub bounds-rows-i : goal.bounds-rows-i
bounds-rows-i g c =
    let m = c.requires.merged in
    omega (arith, c.requires.within, rows_many g.D.Disk.tells m.0 (g.D.Disk.state c.args.disk.now).content m.1 m.2 c.args.levels.now c.args.rows.now c.args.hand.now m.3 m.4)
