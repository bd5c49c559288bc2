use Rattle.std.proofs.Common.{◌≡◌, ◌+◌, ◌≤◌, length, refl, sym, subst}
use Rattle.alta_layout.specs.Places.{half_start}
use Rattle.std.specs.Prelude.{Option}
use Rattle.alta_disk.specs.Disk.{Passes, Stands}
use Rattle.alta_journal.specs.Entry.{MayBeRecorded}
use Rattle.alta_journal.specs.Journal.{Appended, Appends, StandsAhead}
use Rattle.alta_journal.specs.Lent.{entry_of}
use Rattle.alta_journal.specs.Record.{Record, body_of, record_of}
use Rattle.alta_journal.specs.declared.entry.Entry.{Entry}
use Rattle.alta_store.specs.Agreement.{room_of}
use Rattle.alta_store.proofs.Commits.{ahead, ap_err, closed, enters_failed, enters_ok, never_full}
use Rattle.alta_store.proofs.Room.{may_record, raised_not, short_of}
use Rattle.alta_store.proofs.store.Store.commit.Goals as goal

pub enter_allowed-requires-clause-knows : goal.enter_allowed-requires-clause-knows
enter_allowed-requires-clause-knows g c = let intact = c.requires.agrees.intact in (intact.state, intact.knows)

pub append_ahead-requires-clause-closed : goal.append_ahead-requires-clause-closed
append_ahead-requires-clause-closed g c =
    closed g.D.Disk.tells (g.D.Disk.state c.args.disk.now) (g.met.D.Disk.lawful c.args.disk.now) c.args.self.now c.requires.agrees

pub append_ahead-requires-clause-stands : goal.append_ahead-requires-clause-stands
append_ahead-requires-clause-stands g c =
    subst (λ (o : Option Record). Stands g.D.Disk.tells (g.D.Disk.state c.args.disk.now) (StandsAhead c.args.self.now.tail.place o)) (sym c.take-ahead.ensures.value)
    (ahead g.D.Disk.tells (g.D.Disk.state c.args.disk.now) (g.met.D.Disk.lawful c.args.disk.now) c.args.self.now c.requires.agrees)

pub returns-in-Ok-append_ahead-clause-enters : goal.returns-in-Ok-append_ahead-clause-enters
returns-in-Ok-append_ahead-clause-enters g c = λ step steps.
    let store = c.args.self.now in
    let entry = entry_of c.args.entry.now in
    let a = g.D.Disk.state c.args.disk.now in
    let b = g.D.Disk.state c.append_ahead.new.disk in
    let version = store.root.version in
    let may = may_record version entry c.requires.rules c.requires.typed (raised_not store entry c.requires.room) in
    let start = half_start store.tail.slot in
    let place = store.tail.place in
    let is = c.requires.ready in
    enters_ok g.D.Disk.tells a (g.met.D.Disk.lawful c.args.disk.now) store c.requires.agrees entry c.requires.rules c.requires.typed c.requires.allowed c.requires.room
    b (subst (λ (e : Entry). Passes (Appends version start place e) a b) is (c.in-Ok-append_ahead.ensures.images version (subst (MayBeRecorded version) (sym is) may))) (g.met.D.Disk.lawful c.append_ahead.new.disk) c.in-Ok-append_ahead.ensures.durable
    (λ told. subst (λ (e : Entry). Appended version start place e a.content b.content) is (c.in-Ok-append_ahead.ensures.appended version (subst (MayBeRecorded version) (sym is) may) told))
    _ refl refl refl (subst (λ (e : Entry). c.append_ahead.new.tail.place ≡ place + length (record_of e)) is c.in-Ok-append_ahead.ensures.tail) c.in-Ok-append_ahead.ensures.slot refl refl c.in-Ok.ensures.levels c.in-Ok.ensures.still c.in-Ok.ensures.follows c.in-Ok.ensures.knows
    c.in-Ok-append_ahead.ensures.stands.content
    step steps _ c.in-Ok-append_ahead.ensures.costs

pub unreachable-requires : goal.unreachable-requires
unreachable-requires g c =
    let store = c.args.self.now in
    never_full _ _ _ c.in-Err-Full.field-0-is (c.in-Err-Full.ensures.room (subst (λ (e : Entry). length (body_of e) ≤ room_of store) (sym c.requires.ready) (short_of store (entry_of c.args.entry.now) c.requires.room)))

pub returns-in-Err-Disk-clause-enters : goal.returns-in-Err-Disk-clause-enters
returns-in-Err-Disk-clause-enters g c = λ step steps.
    let store = c.args.self.now in
    let entry = entry_of c.args.entry.now in
    let a = g.D.Disk.state c.args.disk.now in
    let b = g.D.Disk.state c.append_ahead.new.disk in
    let version = store.root.version in
    let may = may_record version entry c.requires.rules c.requires.typed (raised_not store entry c.requires.room) in
    let start = half_start store.tail.slot in
    let place = store.tail.place in
    let is = c.requires.ready in
    enters_failed g.D.Disk.tells a (g.met.D.Disk.lawful c.args.disk.now) store c.requires.agrees entry c.requires.rules c.requires.typed c.requires.allowed c.requires.room
    b (subst (λ (e : Entry). Passes (Appends version start place e) a b) is (c.in-Err-Disk.ensures.images version (subst (MayBeRecorded version) (sym is) may)))
    _ step steps _ refl (c.in-Err-Disk.ensures.cause (ap_err c.in-Err-Disk.field-0-is))
    c.in-Err-Disk.ensures.costs
