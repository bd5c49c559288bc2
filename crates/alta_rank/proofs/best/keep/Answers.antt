use Rattle.std.proofs.Common.{arith}
use Rattle.alta_rank.specs.Kept.{replaced}
use Rattle.alta_rank.proofs.best.keep.Goals as goal

pub returns-clause-kept : goal.returns-clause-kept
returns-clause-kept c = replaced (omega (arith, c.if-len-count.false, c.len.ensures, c.args.best.now.data.ok.0)) c.in_ok-replace_last.ensures.kept
