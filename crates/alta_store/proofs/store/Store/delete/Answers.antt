use Rattle.std.proofs.Common.{ℕ, sym, ◌∙◌, ap}
use Rattle.alta_machine.specs.Changes.{with_deleted}
use Rattle.alta_journal.specs.declared.entry.Entry.TheVariants.{Delete}
use Rattle.alta_store.specs.Calls.{NoRefusal}
use Rattle.alta_store.proofs.Changing.{changes_fault, changes_ok, obeys_as, some_is}
use Rattle.alta_store.proofs.store.Store.delete.Goals as goal

pub enter_delete-requires-clause-named : goal.enter_delete-requires-clause-named
enter_delete-requires-clause-named g c = λ s knows. sym (c.in-Some.ensures.value s knows)

pub returns-in-Ok-clause-obeys : goal.returns-in-Ok-clause-obeys
returns-in-Ok-clause-obeys g c = λ s number knows named.
    obeys_as g.D.Disk.tells (Delete c.in-Some.number) (Delete number) (with_deleted c.args.name.now) NoRefusal (g.D.Disk.state c.args.disk.now) (g.D.Disk.state c.enter_delete.new.disk) c.args.self.now c.enter_delete.new.self _
    (ap (λ (n : ℕ). Delete n) (some_is c.in-Some.number number (c.in-Some.ensures.value s knows ∙ named)))
    (changes_ok g.D.Disk.tells _ _ (with_deleted c.args.name.now) NoRefusal NoRefusal 1 _ (g.D.Disk.state c.args.disk.now) (g.D.Disk.state c.enter_delete.new.disk) c.args.self.now c.enter_delete.new.self _ _ c.in-Ok.ensures)

pub returns-in-Err-clause-obeys : goal.returns-in-Err-clause-obeys
returns-in-Err-clause-obeys g c = λ s number knows named.
    obeys_as g.D.Disk.tells (Delete c.in-Some.number) (Delete number) (with_deleted c.args.name.now) NoRefusal (g.D.Disk.state c.args.disk.now) (g.D.Disk.state c.enter_delete.new.disk) c.args.self.now c.failed.new.self _
    (ap (λ (n : ℕ). Delete n) (some_is c.in-Some.number number (c.in-Some.ensures.value s knows ∙ named)))
    (changes_fault g.D.Disk.tells _ _ (with_deleted c.args.name.now) NoRefusal NoRefusal 1 _ (g.D.Disk.state c.args.disk.now) (g.D.Disk.state c.enter_delete.new.disk) c.args.self.now c.enter_delete.new.self c.failed.new.self _ _
    c.failed.ensures.fault (λ e refused. refused) c.in-Err.ensures)
