use Rattle.std.proofs.Common.{List, refl, sym, ◌∙◌, ap, subst, Result, Ok, Err}
use Rattle.alta_meaning.specs.Work.{steps}
use Rattle.alta_store.specs.Calls.{NoRefusal, Obeys}
use Rattle.alta_store.specs.Putting.{IsDrained}
use Rattle.alta_store.specs.declared.fault.StoreFault.{StoreFault}
use Rattle.alta_store.specs.declared.fault.StoreFault.TheVariants.{Memory}
use Rattle.alta_store.specs.declared.store.Store.{Store}
use Rattle.alta_store.proofs.Flushing.{ObeysOver, joined, step_joined, step_reads, two_of}
use Rattle.alta_store.proofs.Joining.{join_answered, levels_stand, memory_wanting, segments_read, undamaged_read}
use Rattle.alta_store.proofs.Stepping.{given_up, step_moves, with_join}
use Rattle.alta_store.proofs.Tasks.{HasNewest}
use Rattle.alta_store.proofs.Working.{changes_unread}
use Rattle.alta_table.specs.Tables.{Tables}
use Rattle.alta_store.proofs.store.Store.move_join.Goals as goal

pub take_join-requires-clause-stands : goal.take_join-requires-clause-stands
take_join-requires-clause-stands g c = λ told. levels_stand g.D.Disk.tells (g.D.Disk.state c.args.disk.now) (g.met.D.Disk.lawful c.args.disk.now) c.args.self.now c.requires.agrees told

pub returns-in-Err : goal.returns-in-Err
returns-in-Err g c =
    let tells = g.D.Disk.tells in
    let a = g.D.Disk.state c.args.disk.now in
    let b = g.D.Disk.state c.take_join.new.disk in
    let store = c.args.self.now in
    let result : Result (Unit {0}) StoreFault = Err c.in-Err.fault in
    subst (λ (joins : List Tables). ObeysOver tells (steps c.args.n) a.content joins a b store c.take_join.new.self result) (sym (step_reads store c.requires.two))
    (changes_unread tells _ _ 1 (two_of store) a b (g.met.D.Disk.lawful c.args.disk.now) (g.met.D.Disk.lawful c.take_join.new.disk) store c.take_join.new.self c.in-Err.fault c.requires.agrees
    (segments_read tells a (g.met.D.Disk.lawful c.args.disk.now) store c.requires.agrees store.job) c.in-Err.ensures.reads)

pub returns-in-Ok-false : goal.returns-in-Ok-false
returns-in-Ok-false g c =
    let tells = g.D.Disk.tells in
    let a = g.D.Disk.state c.args.disk.now in
    let b = g.D.Disk.state c.take_join.new.disk in
    let store = c.args.self.now in
    let join = join_answered tells a store c.requires.agrees c.in-Ok.job c.in-Ok.ensures.goes_on c.in-Ok.ensures.begins in
    let result : Result (Unit {0}) StoreFault = Ok tt in
    subst (λ (s : Store). Obeys tells (steps c.args.n) (λ s. s) NoRefusal a b store (with_join s c.step_job.new.job) result) (sym c.take_join.ensures.taken)
    (step_moves tells a b (g.met.D.Disk.lawful c.args.disk.now) (g.met.D.Disk.lawful c.take_join.new.disk) store c.requires.agrees c.in-Ok.ensures.reads.reads
    (undamaged_read tells (two_of store) a b c.in-Ok.job c.in-Ok.ensures.reads) c.requires.two c.in-Ok.job join c.args.n c.step_job.new.job c.in-Ok-false.ensures.moved
    (λ j is. sym (c.in-Ok-false.ensures.done j is) ∙ c.in-Ok-false.field-0-test) tt)

-- memory was wanting for the step
pub returns-in-Err-step_job : goal.returns-in-Err-step_job
returns-in-Err-step_job g c =
    let tells = g.D.Disk.tells in
    let a = g.D.Disk.state c.args.disk.now in
    let b = g.D.Disk.state c.take_join.new.disk in
    let store = c.args.self.now in
    let result : Result (Unit {0}) StoreFault = Err Memory in
    subst (λ (joins : List Tables). ObeysOver tells (steps c.args.n) a.content joins a b store c.take_join.new.self result) (sym (step_reads store c.requires.two))
    (changes_unread {X = Unit {0}} tells _ _ 1 (two_of store) a b (g.met.D.Disk.lawful c.args.disk.now) (g.met.D.Disk.lawful c.take_join.new.disk) store c.take_join.new.self Memory c.requires.agrees
    (segments_read tells a (g.met.D.Disk.lawful c.args.disk.now) store c.requires.agrees store.job) (memory_wanting tells (two_of store) a b c.in-Ok.ensures.reads.reads))

pub returns-in-Err-drain : goal.returns-in-Err-drain
returns-in-Err-drain g c =
    let tells = g.D.Disk.tells in
    let a = g.D.Disk.state c.args.disk.now in
    let b = g.D.Disk.state c.take_join.new.disk in
    let store = c.args.self.now in
    let failed : StoreFault → Result (Unit {0}) StoreFault = λ fault. Err fault in
    subst (λ (joins : List Tables). ObeysOver tells (steps c.args.n) a.content joins a b store c.drain.new.self (failed c.in-Err-drain.fault)) (sym (step_reads store c.requires.two))
    (subst (λ (fault : StoreFault). ObeysOver tells (steps c.args.n) a.content (two_of store) a b store c.drain.new.self (failed fault)) (sym c.in-Err-drain.ensures.memory)
    (changes_unread {X = Unit {0}} tells _ _ 1 (two_of store) a b (g.met.D.Disk.lawful c.args.disk.now) (g.met.D.Disk.lawful c.take_join.new.disk) store c.drain.new.self Memory c.requires.agrees
    (segments_read tells a (g.met.D.Disk.lawful c.args.disk.now) store c.requires.agrees store.job) (memory_wanting tells (two_of store) a b c.in-Ok.ensures.reads.reads)))

pub put-requires-clause-may : goal.put-requires-clause-may
put-requires-clause-may g c =
    let tells = g.D.Disk.tells in
    let a = g.D.Disk.state c.args.disk.now in
    let b = g.D.Disk.state c.take_join.new.disk in
    let store = c.args.self.now in
    let taken = c.take_join.ensures.taken in
    let drain = c.in-Ok-drain.ensures in
    let join = join_answered tells a store c.requires.agrees c.in-Ok.job c.in-Ok.ensures.goes_on c.in-Ok.ensures.begins in (
      store,
      joined tells a b b (g.met.D.Disk.lawful c.args.disk.now) (g.met.D.Disk.lawful c.take_join.new.disk) (g.met.D.Disk.lawful c.take_join.new.disk) store c.requires.agrees c.in-Ok.ensures.reads.reads
          (undamaged_read tells (two_of store) a b c.in-Ok.job c.in-Ok.ensures.reads) c.in-Ok.job join c.drain.new.self (given_up store c.drain.new.self (subst (λ (s : Store). IsDrained s c.drain.new.self) taken drain.drained))
          (drain.job ∙ ap (λ (s : Store). s.job) taken) c.finish_job-oldest.result c.in-Ok-drain.newest (c.finish_job-oldest.ensures.whole ∙ c.in-Ok-true.ensures.whole)
          (subst (λ (s : Store). HasNewest s c.in-Ok-drain.newest) taken drain.content) drain.part _ (record { stay_from_is = refl; oldest_is = refl; newest_is = refl }) c.requires.few,
    )

pub returns : goal.returns
returns g c =
    let tells = g.D.Disk.tells in
    let a = g.D.Disk.state c.args.disk.now in
    let b = g.D.Disk.state c.take_join.new.disk in
    let store = c.args.self.now in
    let taken = c.take_join.ensures.taken in
    let drain = c.in-Ok-drain.ensures in
    let join = join_answered tells a store c.requires.agrees c.in-Ok.job c.in-Ok.ensures.goes_on c.in-Ok.ensures.begins in
    let whole = undamaged_read tells (two_of store) a b c.in-Ok.job c.in-Ok.ensures.reads in
    let drained = given_up store c.drain.new.self (subst (λ (s : Store). IsDrained s c.drain.new.self) taken drain.drained) in
    let no_job = drain.job ∙ ap (λ (s : Store). s.job) taken in
    let oldest_is = c.finish_job-oldest.ensures.whole ∙ c.in-Ok-true.ensures.whole in
    let has_newest = subst (λ (s : Store). HasNewest s c.in-Ok-drain.newest) taken drain.content in
    step_joined tells a b (g.D.Disk.state c.put.new.disk) (g.met.D.Disk.lawful c.args.disk.now) (g.met.D.Disk.lawful c.take_join.new.disk) (g.met.D.Disk.lawful c.put.new.disk) store c.requires.agrees
    c.in-Ok.ensures.reads.reads whole c.in-Ok.job join c.drain.new.self drained no_job c.finish_job-oldest.result c.in-Ok-drain.newest oldest_is has_newest drain.part _
    (record { stay_from_is = refl; oldest_is = refl; newest_is = refl }) c.requires.few c.args.n (λ j is. sym (c.in-Ok-true.ensures.done j is) ∙ c.in-Ok-true.field-0-test) c.requires.two c.put.new.self c.put.result c.put.ensures.job
    (c.put.ensures.puts store
    (joined tells a b b (g.met.D.Disk.lawful c.args.disk.now) (g.met.D.Disk.lawful c.take_join.new.disk) (g.met.D.Disk.lawful c.take_join.new.disk) store c.requires.agrees c.in-Ok.ensures.reads.reads whole c.in-Ok.job join
    c.drain.new.self drained no_job c.finish_job-oldest.result c.in-Ok-drain.newest oldest_is has_newest drain.part _ (record { stay_from_is = refl; oldest_is = refl; newest_is = refl }) c.requires.few))
