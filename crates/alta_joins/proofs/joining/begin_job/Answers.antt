use Rattle.alta_joins.proofs.JobLaws.{begun_over}
use Rattle.alta_joins.proofs.joining.begin_job.Goals as goal

pub returns-clause-merging : goal.returns-clause-merging
returns-clause-merging c = λ older newer e. begun_over c.args.contents.items older newer c.args.dead.now c.over.result e c.over.ensures.whole c.over.ensures.left
