use Rattle.std.proofs.Common.{arith}
use Rattle.alta_store.specs.Calls.{NoRefusal}
use Rattle.alta_store.proofs.Changing.{changes_fault}
use Rattle.alta_store.proofs.Idling.{idle_step}
use Rattle.alta_store.proofs.Joining.{levels_long}
use Rattle.alta_store.proofs.store.Store.step.Goals as goal

pub returns-then-len-lt2-clause-obeys : goal.returns-then-len-lt2-clause-obeys
returns-then-len-lt2-clause-obeys g c =
    let long = levels_long g.D.Disk.tells (g.D.Disk.state c.args.disk.now) (g.met.D.Disk.lawful c.args.disk.now) c.args.self.now c.requires.agrees in
    idle_step g.D.Disk.tells (g.D.Disk.state c.args.disk.now) (g.met.D.Disk.lawful c.args.disk.now) c.args.self.now c.requires.agrees c.args.n (omega (arith, c.if-len-lt2.true, c.len.ensures.value, long)) _

pub move_join-requires-clause-two : goal.move_join-requires-clause-two
move_join-requires-clause-two g c =
    let long = levels_long g.D.Disk.tells (g.D.Disk.state c.args.disk.now) (g.met.D.Disk.lawful c.args.disk.now) c.args.self.now c.requires.agrees in
    omega (arith, c.if-len-lt2.false, c.len.ensures.value, long)

pub move_join-requires-clause-few : goal.move_join-requires-clause-few
move_join-requires-clause-few g c =
    let long = levels_long g.D.Disk.tells (g.D.Disk.state c.args.disk.now) (g.met.D.Disk.lawful c.args.disk.now) c.args.self.now c.requires.agrees in
    omega (arith, c.len.ensures.fits, c.len.ensures.value, long)

pub returns-in-Err-clause-obeys : goal.returns-in-Err-clause-obeys
returns-in-Err-clause-obeys g c =
    changes_fault g.D.Disk.tells _ _ (λ s. s) NoRefusal NoRefusal 1 _ (g.D.Disk.state c.args.disk.now) (g.D.Disk.state c.move_join.new.disk) c.args.self.now c.move_join.new.self c.failed.new.self _ _ c.failed.ensures.fault
    (λ e refused. refused) c.in-Err.ensures

pub returns-in-Err-clause-idle : goal.returns-in-Err-clause-idle
returns-in-Err-clause-idle g c = λ few.
    let long = levels_long g.D.Disk.tells (g.D.Disk.state c.args.disk.now) (g.met.D.Disk.lawful c.args.disk.now) c.args.self.now c.requires.agrees in
    absurd (omega (arith, few, c.if-len-lt2.false, c.len.ensures.value, long))

pub returns-in-Ok-clause-idle : goal.returns-in-Ok-clause-idle
returns-in-Ok-clause-idle g c = λ few.
    let long = levels_long g.D.Disk.tells (g.D.Disk.state c.args.disk.now) (g.met.D.Disk.lawful c.args.disk.now) c.args.self.now c.requires.agrees in
    absurd (omega (arith, few, c.if-len-lt2.false, c.len.ensures.value, long))
