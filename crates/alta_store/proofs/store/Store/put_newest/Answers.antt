use Rattle.std.proofs.Common.{true, ◌≡◌, ◌⊎◌, inl, inr, ◌<◌, ◌≤◌, List, length, refl, sym, ap, subst, arith, Result, Ok, Err}
use Rattle.std.specs.List.{All}
use Rattle.alta_content.specs.Parts.{IsPart}
use Rattle.alta_content.specs.declared.content.Content.{Content}
use Rattle.alta_joins.specs.Contents.{StandsOn}
use Rattle.alta_rewrite.specs.Rewrites.{no_content}
use Rattle.alta_root.specs.declared.root.Root.{Root}
use Rattle.alta_store.specs.Agreement.{levels_of}
use Rattle.alta_store.specs.Putting.{ReadsLevels}
use Rattle.alta_store.specs.declared.fault.StoreFault.{StoreFault}
use Rattle.alta_store.specs.declared.store.Store.{Store}
use Rattle.alta_store.proofs.Flushing.{WritesOver, flush_joined, flush_reads, flush_stays, joined, many_by, stays, two_now, two_of}
use Rattle.alta_store.proofs.Joining.{joinless, levels_long, levels_now, levels_stand, oldest_joined_now, segments_read, undamaged_read}
use Rattle.alta_store.proofs.Working.{changes_unread}
use Rattle.alta_table.specs.Tables.{Tables}
use Rattle.alta_store.proofs.store.Store.put_newest.Goals as goal
use Rattle.alta_store.proofs.store.Store.put_newest.Goals.{then-len-lt-LEVELS-via-then-len-lt-LEVELS, then-len-lt-LEVELS-via-else-len-lt-LEVELS+then-len-eq0}

no_part : IsPart no_content
no_part = inr (record { documents = refl; lists = refl })

pub put-requires-clause-may : goal.put-requires-clause-may
put-requires-clause-may g c =
    let agrees = c.requires.agrees in
    let drained = c.in-Ok.ensures.drained in
    let long = levels_long g.D.Disk.tells (g.D.Disk.state c.args.disk.now) (g.met.D.Disk.lawful c.args.disk.now) c.args.self.now agrees in
    let root_long = ap (λ (r : Root). length r.levels.items) drained.root in (
      c.args.self.now,
      stays g.D.Disk.tells (g.D.Disk.state c.args.disk.now) (g.met.D.Disk.lawful c.args.disk.now) c.args.self.now agrees c.in-Ok.newest c.in-Ok.ensures.content c.drain.new.self drained c.in-Ok.ensures.job c.in-Ok.ensures.part _
          (record { stay_from_is = refl; oldest_is = c.no_content-nothing.ensures; newest_is = refl }) no_part
          (elim c.then-len-lt-LEVELS.branch [
            | then-len-lt-LEVELS-via-then-len-lt-LEVELS w ↦ inl (omega (arith, w.if-len-lt-LEVELS.true, c.len.ensures.value, root_long, long))
            | then-len-lt-LEVELS-via-else-len-lt-LEVELS+then-len-eq0 w ↦ inr (omega (arith, w.if-len-eq0.true, w.len-else-len-lt-LEVELS.ensures))
          ])
          (omega (arith, c.len.ensures.value, c.len.ensures.fits, root_long, long)),
    )

pub returns-then-len-lt-LEVELS-clause-writes : goal.returns-then-len-lt-LEVELS-clause-writes
returns-then-len-lt-LEVELS-clause-writes g c =
    let agrees = c.requires.agrees in
    let drained = c.in-Ok.ensures.drained in
    let long = levels_long g.D.Disk.tells (g.D.Disk.state c.args.disk.now) (g.met.D.Disk.lawful c.args.disk.now) c.args.self.now agrees in
    let root_long = ap (λ (r : Root). length r.levels.items) drained.root in
    let few : (length (levels_of c.args.self.now) < 16) ⊎ (length c.in-Ok.newest.documents ≡ 0) =
    elim c.then-len-lt-LEVELS.branch [
      | then-len-lt-LEVELS-via-then-len-lt-LEVELS w ↦ inl (omega (arith, w.if-len-lt-LEVELS.true, c.len.ensures.value, root_long, long))
      | then-len-lt-LEVELS-via-else-len-lt-LEVELS+then-len-eq0 w ↦ inr (omega (arith, w.if-len-eq0.true, w.len-else-len-lt-LEVELS.ensures))
    ] in
    let most : length (levels_of c.args.self.now) ≤ 16 = omega (arith, c.len.ensures.value, c.len.ensures.fits, root_long, long) in
    flush_stays g.D.Disk.tells (g.D.Disk.state c.args.disk.now) (g.met.D.Disk.lawful c.args.disk.now) c.args.self.now agrees c.in-Ok.newest c.in-Ok.ensures.content c.drain.new.self drained c.in-Ok.ensures.job
    c.in-Ok.ensures.part _ (record { stay_from_is = refl; oldest_is = c.no_content-nothing.ensures; newest_is = refl }) no_part few most (g.D.Disk.state c.put.new.disk) (g.met.D.Disk.lawful c.put.new.disk) c.put.new.self c.put.result c.put.ensures.job
    (c.put.ensures.puts c.args.self.now
    (stays g.D.Disk.tells (g.D.Disk.state c.args.disk.now) (g.met.D.Disk.lawful c.args.disk.now) c.args.self.now agrees c.in-Ok.newest c.in-Ok.ensures.content c.drain.new.self drained c.in-Ok.ensures.job c.in-Ok.ensures.part _
    (record { stay_from_is = refl; oldest_is = c.no_content-nothing.ensures; newest_is = refl }) no_part few most))

pub join_oldest-requires-clause-stands : goal.join_oldest-requires-clause-stands
join_oldest-requires-clause-stands g c = λ told.
    let a = g.D.Disk.state c.args.disk.now in
    subst (All (StandsOn a.content)) (levels_now c.args.self.now c.drain.new.self c.in-Ok.ensures.drained)
    (levels_stand g.D.Disk.tells a (g.met.D.Disk.lawful c.args.disk.now) c.args.self.now c.requires.agrees told)

pub returns-in-Err-join_oldest-clause-writes : goal.returns-in-Err-join_oldest-clause-writes
returns-in-Err-join_oldest-clause-writes g c =
    let tells = g.D.Disk.tells in
    let a = g.D.Disk.state c.args.disk.now in
    let b = g.D.Disk.state c.join_oldest.new.disk in
    let store = c.args.self.now in
    let newest = c.in-Ok.newest in
    let drained = c.in-Ok.ensures.drained in
    let long = levels_long tells a (g.met.D.Disk.lawful c.args.disk.now) store c.requires.agrees in
    let root_long = ap (λ (r : Root). length r.levels.items) drained.root in
    let many = many_by store newest (omega (arith, c.if-len-lt-LEVELS.false, c.len.ensures.value, c.len.ensures.fits, root_long, long)) (omega (arith, c.if-len-eq0.false, c.len-else-len-lt-LEVELS.ensures)) in
    let result : Result (Unit {0}) StoreFault = Err c.in-Err-join_oldest.fault in
    subst (λ (joins : List Tables). WritesOver tells joins a b store c.join_oldest.new.self result) (sym (flush_reads tells a store c.requires.agrees newest c.in-Ok.ensures.content true many))
    (changes_unread tells _ _ 1 (two_of store) a b (g.met.D.Disk.lawful c.args.disk.now) (g.met.D.Disk.lawful c.join_oldest.new.disk) store c.join_oldest.new.self c.in-Err-join_oldest.fault c.requires.agrees
    (segments_read tells a (g.met.D.Disk.lawful c.args.disk.now) store c.requires.agrees store.job)
    (subst (λ (joins : List Tables). ReadsLevels {T = Content} tells joins a b (Err c.in-Err-join_oldest.fault)) (two_now store c.drain.new.self drained c.in-Ok.ensures.job) c.in-Err-join_oldest.ensures.reads))

pub put-requires-2-clause-may : goal.put-requires-2-clause-may
put-requires-2-clause-may g c =
    let tells = g.D.Disk.tells in
    let a = g.D.Disk.state c.args.disk.now in
    let b = g.D.Disk.state c.join_oldest.new.disk in
    let store = c.args.self.now in
    let drained = c.in-Ok.ensures.drained in
    let long = levels_long tells a (g.met.D.Disk.lawful c.args.disk.now) store c.requires.agrees in
    let root_long = ap (λ (r : Root). length r.levels.items) drained.root in
    let join = oldest_joined_now tells a store c.drain.new.self c.requires.agrees drained c.in-Ok.ensures.job c.in-Ok-join_oldest.oldest c.in-Ok-join_oldest.ensures.goes_on c.in-Ok-join_oldest.ensures.begins in
    let read = subst (λ (joins : List Tables). ReadsLevels {T = Content} tells joins a b (Ok c.in-Ok-join_oldest.oldest)) (two_now store c.drain.new.self drained c.in-Ok.ensures.job) c.in-Ok-join_oldest.ensures.reads in (
      store,
      joined tells a b b (g.met.D.Disk.lawful c.args.disk.now) (g.met.D.Disk.lawful c.join_oldest.new.disk) (g.met.D.Disk.lawful c.join_oldest.new.disk) store c.requires.agrees read.reads
          (undamaged_read tells (two_of store) a b c.in-Ok-join_oldest.oldest read) join.0 join.1 c.join_oldest.new.self (joinless store c.drain.new.self c.join_oldest.new.self drained c.join_oldest.ensures.taken)
          (ap (λ (s : Store). s.job) c.join_oldest.ensures.taken) c.in-Ok-join_oldest.oldest c.in-Ok.newest join.2 c.in-Ok.ensures.content c.in-Ok.ensures.part _
          (record { stay_from_is = refl; oldest_is = refl; newest_is = refl }) (omega (arith, c.len.ensures.value, c.len.ensures.fits, root_long, long)),
    )

pub returns-clause-writes : goal.returns-clause-writes
returns-clause-writes g c =
    let tells = g.D.Disk.tells in
    let a = g.D.Disk.state c.args.disk.now in
    let b = g.D.Disk.state c.join_oldest.new.disk in
    let store = c.args.self.now in
    let newest = c.in-Ok.newest in
    let drained = c.in-Ok.ensures.drained in
    let long = levels_long tells a (g.met.D.Disk.lawful c.args.disk.now) store c.requires.agrees in
    let root_long = ap (λ (r : Root). length r.levels.items) drained.root in
    let most : length (levels_of c.args.self.now) ≤ 16 = omega (arith, c.len.ensures.value, c.len.ensures.fits, root_long, long) in
    let many = many_by store newest (omega (arith, c.if-len-lt-LEVELS.false, c.len.ensures.value, c.len.ensures.fits, root_long, long)) (omega (arith, c.if-len-eq0.false, c.len-else-len-lt-LEVELS.ensures)) in
    let join = oldest_joined_now tells a store c.drain.new.self c.requires.agrees drained c.in-Ok.ensures.job c.in-Ok-join_oldest.oldest c.in-Ok-join_oldest.ensures.goes_on c.in-Ok-join_oldest.ensures.begins in
    let read = subst (λ (joins : List Tables). ReadsLevels {T = Content} tells joins a b (Ok c.in-Ok-join_oldest.oldest)) (two_now store c.drain.new.self drained c.in-Ok.ensures.job) c.in-Ok-join_oldest.ensures.reads in
    let whole = undamaged_read tells (two_of store) a b c.in-Ok-join_oldest.oldest read in
    let taken = joinless store c.drain.new.self c.join_oldest.new.self drained c.join_oldest.ensures.taken in
    let no_job = ap (λ (s : Store). s.job) c.join_oldest.ensures.taken in
    flush_joined tells a b (g.D.Disk.state c.put-2.new.disk) (g.met.D.Disk.lawful c.args.disk.now) (g.met.D.Disk.lawful c.join_oldest.new.disk) (g.met.D.Disk.lawful c.put-2.new.disk) store c.requires.agrees read.reads
    whole join.0 join.1 c.join_oldest.new.self taken no_job c.in-Ok-join_oldest.oldest newest join.2 c.in-Ok.ensures.content c.in-Ok.ensures.part _ (record { stay_from_is = refl; oldest_is = refl; newest_is = refl }) most many c.put-2.new.self c.put-2.result c.put-2.ensures.job
    (c.put-2.ensures.puts store
    (joined tells a b b (g.met.D.Disk.lawful c.args.disk.now) (g.met.D.Disk.lawful c.join_oldest.new.disk) (g.met.D.Disk.lawful c.join_oldest.new.disk) store c.requires.agrees read.reads whole join.0 join.1 c.join_oldest.new.self
    taken no_job c.in-Ok-join_oldest.oldest newest join.2 c.in-Ok.ensures.content c.in-Ok.ensures.part _ (record { stay_from_is = refl; oldest_is = refl; newest_is = refl }) most))
