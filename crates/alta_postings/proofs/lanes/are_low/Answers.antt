use Rattle.std.proofs.Common.{arith}
use Rattle.std.proofs.lemmas.Bool.{eqb-true}
use Rattle.alta_postings.proofs.Tally.{lows_from_mask}
use Rattle.alta_postings.proofs.lanes.are_low.Goals as goal

pub returns : goal.returns
returns c = λ t i l. lows_from_mask c.args.lanes 16 c.fits-lanes.0 (omega arith) (eqb-true _ 0 t) i l
