use Rattle.alta_compile.specs.declared.plan.Plan.TheFolds.{the_lemmas}
use Rattle.alta_compile.proofs.Ranges.{either_one, either_many}
use Rattle.alta_compile.proofs.compiling.either.Goals as goal

pub returns-then-len-eq1 : goal.returns-then-len-eq1
returns-then-len-eq1 c = either_one c.args.parts.items _ _ _ c.len.ensures c.args.parts.ok.0 c.if-len-eq1.true c.remove.ensures.value

pub returns-else-len-eq1 : goal.returns-else-len-eq1
returns-else-len-eq1 c = simp the_lemmas (either_many c.args.parts.items _ _ c.len.ensures c.args.parts.ok.0 c.if-len-eq1.false)
