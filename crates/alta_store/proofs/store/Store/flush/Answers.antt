use Rattle.std.proofs.Common.{◌∙◌, sym}
use Rattle.std.proofs.lemmas.Bool.{false≢true}
use Rattle.alta_layout.specs.Places.{half_start}
use Rattle.alta_meaning.proofs.Tests.{equal_from, equal_test}
use Rattle.alta_store.specs.Calls.{NoRefusal}
use Rattle.alta_store.proofs.Changing.{changes_fault}
use Rattle.alta_store.proofs.Idling.{flush_written, idle_flush}
use Rattle.alta_store.proofs.store.Store.flush.Goals as goal

pub returns-then-has_no_entry-clause-obeys : goal.returns-then-has_no_entry-clause-obeys
returns-then-has_no_entry-clause-obeys g c = idle_flush g.D.Disk.tells (g.D.Disk.state c.args.disk.now) (g.met.D.Disk.lawful c.args.disk.now) c.args.self.now c.requires.agrees (equal_from c.args.self.now.tail.place (half_start c.args.self.now.tail.slot) (sym c.has_no_entry.ensures ∙ c.if-has_no_entry.true)) _

pub returns-in-Ok-clause-obeys : goal.returns-in-Ok-clause-obeys
returns-in-Ok-clause-obeys g c =
    flush_written g.D.Disk.tells (g.D.Disk.state c.args.disk.now) (g.met.D.Disk.lawful c.args.disk.now) c.args.self.now c.requires.agrees (g.D.Disk.state c.put_newest.new.disk) c.put_newest.new.self
    (λ none. false≢true (sym c.if-has_no_entry.false ∙ c.has_no_entry.ensures ∙ equal_test c.args.self.now.tail.place (half_start c.args.self.now.tail.slot) none)) _ c.in-Ok.ensures.writes

pub returns-in-Err-clause-obeys : goal.returns-in-Err-clause-obeys
returns-in-Err-clause-obeys g c =
    changes_fault g.D.Disk.tells _ _ (λ s. s) NoRefusal NoRefusal 1 _ (g.D.Disk.state c.args.disk.now) (g.D.Disk.state c.put_newest.new.disk) c.args.self.now c.put_newest.new.self c.failed.new.self _ _ c.failed.ensures.fault
    (λ e refused. refused)
    (flush_written g.D.Disk.tells (g.D.Disk.state c.args.disk.now) (g.met.D.Disk.lawful c.args.disk.now) c.args.self.now c.requires.agrees (g.D.Disk.state c.put_newest.new.disk) c.put_newest.new.self
    (λ none. false≢true (sym c.if-has_no_entry.false ∙ c.has_no_entry.ensures ∙ equal_test c.args.self.now.tail.place (half_start c.args.self.now.tail.slot) none)) _ c.in-Err.ensures.writes)
