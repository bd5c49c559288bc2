use Rattle.std.proofs.Common.{ℕ, ⊎_elim, refl, sym, ◌∙◌, ap}
use Rattle.std.proofs.lemmas.Bool.{false≢true, cases_lt}
use Rattle.alta_machine.specs.Changes.{with_replaced}
use Rattle.alta_journal.specs.declared.entry.Entry.TheVariants.{Replace}
use Rattle.alta_store.specs.Calls.{NoRefusal, RefusesReplace}
use Rattle.alta_store.proofs.Changing.{changes_fault, changes_ok, obeys_as, some_is}
use Rattle.alta_store.proofs.store.Store.replace.Goals as goal

pub returns-then-not-has_room-clause-numbers : goal.returns-then-not-has_room-clause-numbers
returns-then-not-has_room-clause-numbers g c = λ s knows.
    (λ e. ((c.in-Some.ensures.some s knows).0, ⊎_elim (λ less. absurd (false≢true ((c.if-not-has_room.ensures s knows).1 less))) (λ enough. enough) (cases_lt s.next 4294967296)), λ both. refl)

pub enter_put-requires-clause-named : goal.enter_put-requires-clause-named
enter_put-requires-clause-named g c = λ s knows. sym (c.in-Some.ensures.value s knows)

pub enter_put-requires-clause-left : goal.enter_put-requires-clause-left
enter_put-requires-clause-left g c = λ s knows. (c.if-not-has_room.ensures s knows).0 refl

pub returns-in-Ok-clause-obeys : goal.returns-in-Ok-clause-obeys
returns-in-Ok-clause-obeys g c = λ s number knows named.
    obeys_as g.D.Disk.tells (Replace c.in-Some.old c.args.name.now c.args.title.now c.args.body.now) (Replace number c.args.name.now c.args.title.now c.args.body.now) (with_replaced c.args.name.now c.args.title.now c.args.body.now) RefusesReplace
    (g.D.Disk.state c.args.disk.now) (g.D.Disk.state c.enter_put.new.disk) c.args.self.now c.enter_put.new.self _
    (ap (λ (n : ℕ). Replace n c.args.name.now c.args.title.now c.args.body.now) (some_is c.in-Some.old number (c.in-Some.ensures.value s knows ∙ named)))
    (changes_ok g.D.Disk.tells _ _ (with_replaced c.args.name.now c.args.title.now c.args.body.now) NoRefusal RefusesReplace 1 _ (g.D.Disk.state c.args.disk.now) (g.D.Disk.state c.enter_put.new.disk) c.args.self.now c.enter_put.new.self _ _
    c.in-Ok.ensures)

pub returns-in-Ok-clause-numbers_of : goal.returns-in-Ok-clause-numbers_of
returns-in-Ok-clause-numbers_of g c = λ s knows.
    (sym (c.in-Some.ensures.value s knows), ap (λ (counts : ℕ × ℕ × ℕ). counts.2) (c.counts-new.ensures s knows), (c.if-not-has_room.ensures s knows).0 refl)

pub returns-in-Err-clause-obeys : goal.returns-in-Err-clause-obeys
returns-in-Err-clause-obeys g c = λ s number knows named.
    obeys_as g.D.Disk.tells (Replace c.in-Some.old c.args.name.now c.args.title.now c.args.body.now) (Replace number c.args.name.now c.args.title.now c.args.body.now) (with_replaced c.args.name.now c.args.title.now c.args.body.now) RefusesReplace
    (g.D.Disk.state c.args.disk.now) (g.D.Disk.state c.enter_put.new.disk) c.args.self.now c.failed.new.self _
    (ap (λ (n : ℕ). Replace n c.args.name.now c.args.title.now c.args.body.now) (some_is c.in-Some.old number (c.in-Some.ensures.value s knows ∙ named)))
    (changes_fault g.D.Disk.tells _ _ (with_replaced c.args.name.now c.args.title.now c.args.body.now) NoRefusal RefusesReplace 1 _ (g.D.Disk.state c.args.disk.now) (g.D.Disk.state c.enter_put.new.disk) c.args.self.now c.enter_put.new.self
    c.failed.new.self _ _ c.failed.ensures.fault (λ e refused. absurd refused) c.in-Err.ensures)
