use Rattle.std.proofs.Common.{sym, arith}
use Rattle.alta_make.proofs.Lines.{closing-delete, closing-merge, closing-past}
use Rattle.alta_make.proofs.script.closing.Goals as goal

pub returns-then-index-deleted : goal.returns-then-index-deleted
returns-then-index-deleted c = sym (closing-delete c.args.n c.args.index c.if-index-deleted.true)

pub returns-then-index-deleted-2 : goal.returns-then-index-deleted-2
returns-then-index-deleted-2 c = sym (closing-merge c.args.n c.args.index (omega arith))

pub returns-else-index-deleted-2 : goal.returns-else-index-deleted-2
returns-else-index-deleted-2 c = sym (closing-past c.args.n c.args.index (omega arith))
