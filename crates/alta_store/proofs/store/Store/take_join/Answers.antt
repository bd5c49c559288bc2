use Rattle.alta_store.proofs.GoingOn.{begins_as}
use Rattle.alta_store.proofs.store.Store.take_join.Goals as goal

pub returns-in-Ok-clause-begins : goal.returns-in-Ok-clause-begins
returns-in-Ok-clause-begins g c = λ none.
    begins_as g.D.Disk.tells (g.D.Disk.state c.args.disk.now).content _ _ _ _ c.in-Ok.job c.levels.ensures c.gone.ensures.value c.in-Ok.ensures.begun
