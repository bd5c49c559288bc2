use Rattle.std.proofs.Common.{ℕ, ⊎_elim, ap, refl, sym, subst, Ok, Err}
use Rattle.std.specs.Prelude.{Option}
use Rattle.std.proofs.lemmas.Bool.{false≢true, cases_lt}
use Rattle.alta_meaning.specs.Work.{enters}
use Rattle.alta_store.specs.Calls.{NoRefusal, Obeys, RefusesPut, entry_for, with_put}
use Rattle.alta_store.specs.declared.entries.Put.{Put}
use Rattle.alta_store.proofs.Changing.{changes_fault, changes_ok}
use Rattle.alta_store.proofs.store.Store.put_document.Goals as goal

pub returns-then-not-has_room-clause-numbers : goal.returns-then-not-has_room-clause-numbers
returns-then-not-has_room-clause-numbers g c = λ s knows.
    (λ e. ⊎_elim (λ less. absurd (false≢true ((c.if-not-has_room.ensures s knows).1 less))) (λ enough. enough) (cases_lt s.next 4294967296), λ full. refl)

pub enter_put-requires-clause-named : goal.enter_put-requires-clause-named
enter_put-requires-clause-named g c = λ s knows. sym (c.number_of-replaced.ensures.value s knows)

pub enter_put-requires-clause-left : goal.enter_put-requires-clause-left
enter_put-requires-clause-left g c = λ s knows. (c.if-not-has_room.ensures s knows).0 refl

pub returns-in-Ok-clause-obeys : goal.returns-in-Ok-clause-obeys
returns-in-Ok-clause-obeys g c = λ s knows.
    subst (λ (o : Option ℕ). Obeys {T = Put} g.D.Disk.tells (enters (entry_for o c.args.name.now c.args.title.now c.args.body.now)) (with_put o c.args.name.now c.args.title.now c.args.body.now) RefusesPut (g.D.Disk.state c.args.disk.now)
    (g.D.Disk.state c.enter_put.new.disk) c.args.self.now c.enter_put.new.self (Ok (record { number = c.counts-number.result.2; replaced = c.number_of-replaced.result }))) (c.number_of-replaced.ensures.value s knows)
    (changes_ok g.D.Disk.tells _ _ (with_put c.number_of-replaced.result c.args.name.now c.args.title.now c.args.body.now) NoRefusal RefusesPut 1 _ (g.D.Disk.state c.args.disk.now) (g.D.Disk.state c.enter_put.new.disk) c.args.self.now
    c.enter_put.new.self _ _ c.in-Ok.ensures)

pub returns-in-Ok-clause-put : goal.returns-in-Ok-clause-put
returns-in-Ok-clause-put g c = λ s knows.
    (ap (λ (counts : ℕ × ℕ × ℕ). counts.2) (c.counts-number.ensures s knows), c.number_of-replaced.ensures.value s knows, (c.if-not-has_room.ensures s knows).0 refl)

pub returns-in-Err-clause-obeys : goal.returns-in-Err-clause-obeys
returns-in-Err-clause-obeys g c = λ s knows.
    subst (λ (o : Option ℕ). Obeys {T = Put} g.D.Disk.tells (enters (entry_for o c.args.name.now c.args.title.now c.args.body.now)) (with_put o c.args.name.now c.args.title.now c.args.body.now) RefusesPut (g.D.Disk.state c.args.disk.now)
    (g.D.Disk.state c.enter_put.new.disk) c.args.self.now c.failed.new.self (Err c.failed.result)) (c.number_of-replaced.ensures.value s knows)
    (changes_fault g.D.Disk.tells _ _ (with_put c.number_of-replaced.result c.args.name.now c.args.title.now c.args.body.now) NoRefusal RefusesPut 1 _ (g.D.Disk.state c.args.disk.now) (g.D.Disk.state c.enter_put.new.disk) c.args.self.now
    c.enter_put.new.self c.failed.new.self _ _ c.failed.ensures.fault (λ e refused. absurd refused) c.in-Err.ensures)
