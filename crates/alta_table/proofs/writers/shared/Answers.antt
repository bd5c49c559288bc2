use Rattle.std.proofs.Common.{arith}
use Rattle.alta_table.proofs.Order.{shared_end}
use Rattle.alta_table.proofs.writers.shared.Goals as goal

pub returns-else-len-term : goal.returns-else-len-term
returns-else-len-term c = omega (arith, c.shared.invariant.so_far, shared_end c.args.before.now c.args.term.now c.shared.len c.if-len-term.false)
