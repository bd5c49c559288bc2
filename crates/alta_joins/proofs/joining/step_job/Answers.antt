use Rattle.alta_joins.proofs.JobLaws.{step_done}
use Rattle.alta_joins.proofs.joining.step_job.Goals as goal

pub returns-clause-done : goal.returns-clause-done
returns-clause-done c = λ j is. step_done c.args.job.now c.step.new.self j c.args.n c.step.result is c.step.ensures.whole c.step.ensures.left c.step.ensures.done
