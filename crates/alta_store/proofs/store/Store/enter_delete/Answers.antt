use Rattle.alta_machine.specs.Changes.{with_deleted}
use Rattle.alta_store.proofs.Commits.{delete_allowed, delete_steps}
use Rattle.alta_store.proofs.store.Store.enter_delete.Goals as goal

pub enter-requires-clause-allowed : goal.enter-requires-clause-allowed
enter-requires-clause-allowed g c = delete_allowed c.args.self.now c.args.name.now c.args.number c.requires.named

pub returns : goal.returns
returns g c = c.enter.ensures (with_deleted c.args.name.now) (delete_steps c.args.self.now c.args.name.now c.args.number c.requires.named)
