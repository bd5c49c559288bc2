use Rattle.std.proofs.Common.{sym, ◌∙◌}
use Rattle.alta_journal.specs.Lent.{entry_of}
use Rattle.alta_store.proofs.Idling.{room_idle, room_made}
use Rattle.alta_store.proofs.Room.{room_then}
use Rattle.alta_store.proofs.store.Store.make_room.Goals as goal

pub returns-then-not-needs_room-clause-makes : goal.returns-then-not-needs_room-clause-makes
returns-then-not-needs_room-clause-makes g c =
    room_idle g.D.Disk.tells (g.D.Disk.state c.args.disk.now) (g.met.D.Disk.lawful c.args.disk.now) c.args.self.now c.requires.agrees (entry_of c.args.entry.now) (sym c.needs_room.ensures ∙ c.if-not-needs_room.true) _

pub returns-clause-makes : goal.returns-clause-makes
returns-clause-makes g c =
    room_made g.D.Disk.tells (g.D.Disk.state c.args.disk.now) (g.met.D.Disk.lawful c.args.disk.now) c.args.self.now c.requires.agrees (g.D.Disk.state c.put_newest.new.disk) c.put_newest.new.self (entry_of c.args.entry.now)
    (sym c.needs_room.ensures ∙ c.if-not-needs_room.false) _ c.put_newest.ensures.writes

pub returns-clause-room : goal.returns-clause-room
returns-clause-room g c = room_then c.put_newest.new.self (entry_of c.args.entry.now) c.requires.rules c.put_newest.result c.put_newest.ensures.version c.put_newest.ensures.none
