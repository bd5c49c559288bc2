use Rattle.std.proofs.Common.{below_more}
use Rattle.alta_postings.proofs.summary.Summary.open.Goals as goal

pub loop-k-preserved : goal.loop-k-preserved
loop-k-preserved c = below_more _ _ c.loop-k.invariant (c.keeps.ensures.0 c.if-not-keeps.false)
