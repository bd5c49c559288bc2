use Rattle.alta_query.specs.declared.query.Query.TheFolds.{the_lemmas}
use Rattle.alta_query.proofs.Singles.{any_one, any_many}
use Rattle.alta_query.proofs.machine.any.Goals as goal

pub returns-then-len-eq1 : goal.returns-then-len-eq1
returns-then-len-eq1 c = any_one c.args.members.items _ _ _ c.len.ensures c.args.members.ok.0 c.if-len-eq1.true c.remove.ensures.value

pub returns-else-len-eq1 : goal.returns-else-len-eq1
returns-else-len-eq1 c = simp the_lemmas (any_many c.args.members.items _ _ c.len.ensures c.args.members.ok.0 c.if-len-eq1.false)
