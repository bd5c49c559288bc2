use Rattle.std.proofs.Common.{◌≡◌, ⊎_elim, ℕ, ap, false, refl, rules}
use Rattle.std.proofs.lemmas.Bool.{false≢true, cases_lt}
use Rattle.alta_machine.specs.Changes.{has_name, with_added}
use Rattle.alta_store.specs.Calls.{NoRefusal, RefusesAdd}
use Rattle.alta_store.proofs.Changing.{changes_fault, changes_ok}
use Rattle.alta_catalog.proofs.NotingLaws.{no_number}
use Rattle.alta_store.proofs.store.Store.add.Goals as goal

pub returns-then-not-has_room-clause-numbers : goal.returns-then-not-has_room-clause-numbers
returns-then-not-has_room-clause-numbers g c = λ s knows.
    let free : has_name c.args.name.now s ≡ false = search rules in
    (λ e. (free, ⊎_elim (λ less. absurd (false≢true ((c.if-not-has_room.ensures s knows).1 less))) (λ enough. enough) (cases_lt s.next 4294967296)), λ both. refl)

pub enter_put-requires-clause-named : goal.enter_put-requires-clause-named
enter_put-requires-clause-named g c = λ s knows. no_number s c.args.name.now (search rules)

pub enter_put-requires-clause-left : goal.enter_put-requires-clause-left
enter_put-requires-clause-left g c = λ s knows. (c.if-not-has_room.ensures s knows).0 refl

pub returns-in-Ok-clause-obeys : goal.returns-in-Ok-clause-obeys
returns-in-Ok-clause-obeys g c =
    changes_ok g.D.Disk.tells _ _ (with_added c.args.name.now c.args.title.now c.args.body.now) NoRefusal RefusesAdd 1 _ (g.D.Disk.state c.args.disk.now) (g.D.Disk.state c.enter_put.new.disk) c.args.self.now c.enter_put.new.self _ _
    c.in-Ok.ensures

pub returns-in-Ok-clause-number : goal.returns-in-Ok-clause-number
returns-in-Ok-clause-number g c = λ s knows.
    let free : has_name c.args.name.now s ≡ false = search rules in
    (ap (λ (counts : ℕ × ℕ × ℕ). counts.2) (c.counts-number.ensures s knows), free, (c.if-not-has_room.ensures s knows).0 refl)

pub returns-in-Err-clause-obeys : goal.returns-in-Err-clause-obeys
returns-in-Err-clause-obeys g c =
    changes_fault g.D.Disk.tells _ _ (with_added c.args.name.now c.args.title.now c.args.body.now) NoRefusal RefusesAdd 1 _ (g.D.Disk.state c.args.disk.now) (g.D.Disk.state c.enter_put.new.disk) c.args.self.now c.enter_put.new.self
    c.failed.new.self _ _ c.failed.ensures.fault (λ e refused. absurd refused) c.in-Err.ensures
