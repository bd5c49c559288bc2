use Rattle.std.proofs.Common.{◌∙◌, sym}
use Rattle.alta_store.specs.Calls.{NoRefusal}
use Rattle.alta_store.proofs.Changing.{changes_fault}
use Rattle.alta_store.proofs.Idling.{idle_merge}
use Rattle.alta_store.proofs.store.Store.merge.Goals as goal

pub returns-then-is_one-clause-obeys : goal.returns-then-is_one-clause-obeys
returns-then-is_one-clause-obeys g c = idle_merge g.D.Disk.tells (g.D.Disk.state c.args.disk.now) (g.met.D.Disk.lawful c.args.disk.now) c.args.self.now c.requires.agrees (sym c.is_one.ensures ∙ c.if-is_one.true) _

pub returns-in-Err-clause-obeys : goal.returns-in-Err-clause-obeys
returns-in-Err-clause-obeys g c =
    changes_fault g.D.Disk.tells _ _ (λ s. s) NoRefusal NoRefusal 1 _ (g.D.Disk.state c.args.disk.now) (g.D.Disk.state c.put_merged.new.disk) c.args.self.now c.put_merged.new.self c.failed.new.self _ _ c.failed.ensures.fault
    (λ e refused. refused) c.in-Err.ensures
