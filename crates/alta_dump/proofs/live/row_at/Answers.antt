use Rattle.std.proofs.Common.{refl}
use Rattle.alta_dump.proofs.Lives.{row_below, row_is}
use Rattle.alta_dump.proofs.live.row_at.Goals as goal

pub returns-clause-row : goal.returns-clause-row
returns-clause-row c = row_is c.args.rows.now c.args.live.now c.args.i _ c.row.result.now c.requires.within refl c.row.ensures

pub returns-clause-below : goal.returns-clause-below
returns-clause-below c = row_below c.args.rows.now c.args.live.now c.args.i _ c.row.result.now c.requires.within refl c.row.ensures c.requires.rising
