use Rattle.std.proofs.Common.{◌∙◌}
use Rattle.alta_store.proofs.store.Store.join_oldest.Goals as goal

pub returns-in-Ok-run_job-clause-begins : goal.returns-in-Ok-run_job-clause-begins
returns-in-Ok-run_job-clause-begins g c = λ none.
    let begins = c.in-Ok.ensures.begins none in
    (c.in-Ok.job, begins.0, begins.1, begins.2, c.finish_job.ensures.whole ∙ c.run_job.ensures.whole)
