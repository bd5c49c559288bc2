use Rattle.alta_compile.proofs.Ends.{plan_rises, plan_ends}
use Rattle.alta_compile.proofs.laws.a_plan_lists_ends.Goals as goal

pub returns-clause-rises : goal.returns-clause-rises
returns-clause-rises c = λ space t s. plan_rises space s t

pub returns-clause-ends : goal.returns-clause-ends
returns-clause-ends c = λ space t e s m. plan_ends space s t e m
