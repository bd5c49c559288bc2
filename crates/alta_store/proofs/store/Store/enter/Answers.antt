use Rattle.std.proofs.Common.{arith}
use Rattle.alta_journal.specs.Lent.{entry_of}
use Rattle.alta_store.specs.Calls.{NoRefusal}
use Rattle.alta_store.proofs.Changing.{changes_failed, changes_then, enters_finds, obeys_entry}
use Rattle.alta_store.proofs.Naming.{allowed_alike}
use Rattle.alta_store.proofs.store.Store.enter.Goals as goal

pub commit-requires-clause-agrees : goal.commit-requires-clause-agrees
commit-requires-clause-agrees g c = c.in-Ok-make_room.ensures.makes.done.agrees

pub commit-requires-clause-allowed : goal.commit-requires-clause-allowed
commit-requires-clause-allowed g c = λ s knows.
    let intact = c.requires.agrees.intact in
    allowed_alike c.make_room.new.self intact.state (c.in-Ok-make_room.ensures.makes.done.knows intact.state intact.knows) s knows (entry_of c.args.entry.now) (c.requires.allowed intact.state intact.knows)

pub commit-requires-clause-limit : goal.commit-requires-clause-limit
commit-requires-clause-limit g c = omega (arith, c.in-Ok-make_room.ensures.makes.throughout.costs.limit, c.requires.limit)

pub returns-in-Ok-make_room : goal.returns-in-Ok-make_room
returns-in-Ok-make_room g c = λ step steps.
    let entry = entry_of c.args.entry.now in
    let intact = c.requires.agrees.intact in
    let makes = c.in-Ok-make_room.ensures.makes in
    obeys_entry g.D.Disk.tells entry c.requires.rules step (g.D.Disk.state c.args.disk.now) (g.D.Disk.state c.commit.new.disk) c.args.self.now c.commit.new.self _
    (changes_then g.D.Disk.tells _ _ _ _ step NoRefusal 1 0 _ (g.D.Disk.state c.args.disk.now) (g.D.Disk.state c.make_room.new.disk) (g.D.Disk.state c.commit.new.disk)
    c.args.self.now c.make_room.new.self c.commit.new.self _ makes (enters_finds entry) _ c.commit.ensures.slot (c.commit.ensures.enters step (steps c.make_room.new.self intact.state intact.knows (makes.done.knows intact.state intact.knows))))

pub returns : goal.returns
returns g c = λ step steps.
    let entry = entry_of c.args.entry.now in
    obeys_entry g.D.Disk.tells entry c.requires.rules step (g.D.Disk.state c.args.disk.now) (g.D.Disk.state c.make_room.new.disk) c.args.self.now c.make_room.new.self _
    (changes_failed g.D.Disk.tells _ _ _ _ step NoRefusal 1 0 _ (g.D.Disk.state c.args.disk.now) (g.D.Disk.state c.make_room.new.disk) c.args.self.now c.make_room.new.self c.in-Err.fault c.in-Err.ensures.makes)
