use Rattle.std.proofs.Common.{inr, [], ◌++◌, List, length, refl, sym, ◌∙◌, ap, ap₂, subst, ℕ, Bool, cond, Result, Ok, Err}
use Rattle.std.specs.List.{All}
use Rattle.alta_catalog.specs.Knowing.{gone_of, newest_of}
use Rattle.alta_content.specs.Parts.{IsPart}
use Rattle.alta_content.specs.Rows.{live_rows}
use Rattle.alta_content.specs.declared.content.Content.{Content}
use Rattle.alta_meaning.specs.Opened.{table_rows}
use Rattle.alta_meaning.specs.Work.{merges}
use Rattle.alta_joins.specs.Contents.{StandsOn}
use Rattle.alta_rewrite.specs.Rewrites.{no_content}
use Rattle.alta_store.specs.Agreement.{levels_of}
use Rattle.alta_store.specs.Putting.{ReadsLevels}
use Rattle.alta_store.specs.declared.fault.StoreFault.{StoreFault}
use Rattle.alta_store.proofs.Changing.{changes_wanting}
use Rattle.alta_store.proofs.Flushing.{ObeysOver}
use Rattle.alta_store.proofs.Joining.{levels_now, levels_stand, read_done, read_failed, segments_here, undamaged_read}
use Rattle.alta_store.proofs.Stepping.{all_put, given_up, merge_put, merged_as, newest_as, newest_behind_levels}
use Rattle.alta_store.proofs.Working.{changes_unread}
use Rattle.alta_table.specs.Tables.{Tables}
use Rattle.alta_store.proofs.store.Store.put_merged.Goals as goal

no_part : IsPart no_content
no_part = inr (record { documents = refl; lists = refl })

pub merge_levels-requires-clause-stands : goal.merge_levels-requires-clause-stands
merge_levels-requires-clause-stands g c = λ told.
    let a = g.D.Disk.state c.args.disk.now in
    let drained = given_up c.args.self.now c.drain.new.self c.in-Ok.ensures.drained in
    subst (All (StandsOn a.content)) (levels_now c.args.self.now c.drain.new.self drained ∙ sym c.levels-levels.ensures)
    (levels_stand g.D.Disk.tells a (g.met.D.Disk.lawful c.args.disk.now) c.args.self.now c.requires.agrees told)

pub merge_levels-requires-clause-newest : goal.merge_levels-requires-clause-newest
merge_levels-requires-clause-newest g c =
    let store = c.args.self.now in
    let intact = c.requires.agrees.intact in
    let drained = given_up store c.drain.new.self c.in-Ok.ensures.drained in (
      newest_of store.root intact.entries,
      newest_as (levels_of store) c.levels-levels.result.now (gone_of store.catalog) c.gone-gone.result.now (newest_of store.root intact.entries) c.in-Ok.newest (levels_now store c.drain.new.self drained ∙ sym c.levels-levels.ensures)
          (sym drained.catalog.gone ∙ sym c.gone-gone.ensures.value) (newest_behind_levels store intact intact.entries intact.follows.content intact.follows.made c.in-Ok.newest c.in-Ok.ensures.content),
    )

pub returns-in-Err : goal.returns-in-Err
returns-in-Err g c =
    changes_wanting g.D.Disk.tells _ _ 1 _ (g.D.Disk.state c.args.disk.now) c.args.self.now c.drain.new.self c.in-Err.fault (g.met.D.Disk.lawful c.args.disk.now) c.requires.agrees c.in-Err.ensures.memory

pub returns-in-Err-merge_levels : goal.returns-in-Err-merge_levels
returns-in-Err-merge_levels g c =
    let tells = g.D.Disk.tells in
    let a = g.D.Disk.state c.args.disk.now in
    let b = g.D.Disk.state c.merge_levels.new.disk in
    let store = c.args.self.now in
    let drained = given_up store c.drain.new.self c.in-Ok.ensures.drained in
    let same = c.levels-levels.ensures ∙ sym (levels_now store c.drain.new.self drained) in
    let clauses = c.in-Err-merge_levels.ensures in
    let read = read_failed {X = Content} tells c.levels-levels.result.now a b c.in-Err-merge_levels.fault c.load_fault.result c.load_fault.ensures clauses.damage clauses.broken clauses.retrieves.cause clauses.retrieves.reads in
    let result : Result (Unit {0}) StoreFault = Err c.load_fault.result in
    subst (λ (joins : List Tables). ObeysOver tells merges a.content joins a b store c.drain.new.self result) (sym (ap (λ (x : Bool). cond x [] (levels_of store)) c.requires.some))
    (changes_unread tells _ _ 1 (levels_of store) a b (g.met.D.Disk.lawful c.args.disk.now) (g.met.D.Disk.lawful c.merge_levels.new.disk) store c.drain.new.self c.load_fault.result c.requires.agrees
    (segments_here tells a (g.met.D.Disk.lawful c.args.disk.now) store c.requires.agrees) (subst (λ (levels : List Tables). ReadsLevels {T = Content} tells levels a b (Err c.load_fault.result)) same read))

pub put-requires-clause-may : goal.put-requires-clause-may
put-requires-clause-may g c =
    let tells = g.D.Disk.tells in
    let a = g.D.Disk.state c.args.disk.now in
    let b = g.D.Disk.state c.merge_levels.new.disk in
    let store = c.args.self.now in
    let drained = given_up store c.drain.new.self c.in-Ok.ensures.drained in
    let same = c.levels-levels.ensures ∙ sym (levels_now store c.drain.new.self drained) in
    let still = c.gone-gone.ensures.value ∙ drained.catalog.gone in
    let clauses = c.in-Ok-merge_levels.ensures in
    let read = subst (λ (levels : List Tables). ReadsLevels {T = Content} tells levels a b (Ok c.in-Ok-merge_levels.oldest)) same (read_done tells c.levels-levels.result.now a b c.in-Ok-merge_levels.oldest clauses.damage clauses.retrieves.reads) in (
      store,
      all_put tells a b b (g.met.D.Disk.lawful c.args.disk.now) (g.met.D.Disk.lawful c.merge_levels.new.disk) (g.met.D.Disk.lawful c.merge_levels.new.disk) store c.requires.agrees read.reads
          (undamaged_read tells (levels_of store) a b c.in-Ok-merge_levels.oldest read) c.drain.new.self drained c.in-Ok.ensures.job c.in-Ok-merge_levels.oldest c.in-Ok.newest c.in-Ok.ensures.content clauses.part no_part
          (clauses.rows ∙ ap₂ (λ (gone : List ℕ) (levels : List Tables). live_rows gone (table_rows levels ++ c.in-Ok.newest.documents)) still same) _
          (record { stay_from_is = ap (λ (levels : List Tables). length levels) same; oldest_is = refl; newest_is = c.no_content-nothing.ensures })
          (merged_as tells a.content store c.levels-levels.result.now c.gone-gone.result.now c.in-Ok-merge_levels.oldest c.in-Ok.newest same still clauses.merged),
    )

pub returns : goal.returns
returns g c =
    let tells = g.D.Disk.tells in
    let a = g.D.Disk.state c.args.disk.now in
    let b = g.D.Disk.state c.merge_levels.new.disk in
    let store = c.args.self.now in
    let drained = given_up store c.drain.new.self c.in-Ok.ensures.drained in
    let same = c.levels-levels.ensures ∙ sym (levels_now store c.drain.new.self drained) in
    let still = c.gone-gone.ensures.value ∙ drained.catalog.gone in
    let clauses = c.in-Ok-merge_levels.ensures in
    let read = subst (λ (levels : List Tables). ReadsLevels {T = Content} tells levels a b (Ok c.in-Ok-merge_levels.oldest)) same (read_done tells c.levels-levels.result.now a b c.in-Ok-merge_levels.oldest clauses.damage clauses.retrieves.reads) in
    let whole = undamaged_read tells (levels_of store) a b c.in-Ok-merge_levels.oldest read in
    let rows = clauses.rows ∙ ap₂ (λ (gone : List ℕ) (levels : List Tables). live_rows gone (table_rows levels ++ c.in-Ok.newest.documents)) still same in
    let merged = merged_as tells a.content store c.levels-levels.result.now c.gone-gone.result.now c.in-Ok-merge_levels.oldest c.in-Ok.newest same still clauses.merged in
    let long = ap (λ (levels : List Tables). length levels) same in
    merge_put tells a b (g.D.Disk.state c.put.new.disk) (g.met.D.Disk.lawful c.args.disk.now) (g.met.D.Disk.lawful c.merge_levels.new.disk) (g.met.D.Disk.lawful c.put.new.disk) store c.requires.agrees read.reads whole
    c.drain.new.self drained c.in-Ok.ensures.job c.in-Ok-merge_levels.oldest c.in-Ok.newest c.in-Ok.ensures.content clauses.part no_part rows _
    (record { stay_from_is = long; oldest_is = refl; newest_is = c.no_content-nothing.ensures }) merged c.requires.some c.put.new.self c.put.result c.put.ensures.job
    (c.put.ensures.puts store
    (all_put tells a b b (g.met.D.Disk.lawful c.args.disk.now) (g.met.D.Disk.lawful c.merge_levels.new.disk) (g.met.D.Disk.lawful c.merge_levels.new.disk) store c.requires.agrees read.reads whole c.drain.new.self drained
    c.in-Ok.ensures.job c.in-Ok-merge_levels.oldest c.in-Ok.newest c.in-Ok.ensures.content clauses.part no_part rows _
    (record { stay_from_is = long; oldest_is = refl; newest_is = c.no_content-nothing.ensures }) merged))
