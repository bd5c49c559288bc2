use Rattle.std.proofs.Common.{ap, ap₂, sym, refl, subst, ◌∙◌, List, Vec, Global}
use Rattle.alta_catalog.specs.Replacing.{rows_between}
use Rattle.alta_catalog.proofs.LevelLaws.{kept_rise}
use Rattle.alta_content.specs.Rows.{RowsRise}
use Rattle.alta_content.specs.declared.document.DocRow.{DocRow}
use Rattle.alta_store.specs.Agreement.{levels_of}
use Rattle.alta_store.proofs.Putting.{prepared_as, put_done, put_failed, put_nothing}
use Rattle.alta_store.proofs.Rows.{all_documents}
use Rattle.alta_table.specs.Tables.{Tables}
use Rattle.alta_store.proofs.store.Store.put.Goals as goal

pub prepare-requires-clause-rows : goal.prepare-requires-clause-rows
prepare-requires-clause-rows g c =
    let levels = c.args.levels in
    let before = c.requires.may.0 in
    let may = c.requires.may.1 in
    subst RowsRise
    (sym (ap₂ (λ (xs ys : List DocRow). rows_between xs levels.stay_from (levels_of c.args.self.now) ys) c.as_slice-oldest.ensures c.as_slice-newest.ensures
    ∙ ap (λ (v : Vec Tables Global). rows_between levels.oldest.documents levels.stay_from v.items levels.newest.documents) may.drained.catalog.levels ∙ may.rows))
    (kept_rise before.catalog may.agrees.intact.state may.kept may.agrees.intact.knows)

pub returns-in-Err-clause-puts : goal.returns-in-Err-clause-puts
returns-in-Err-clause-puts g c = λ before may.
    put_failed g.D.Disk.tells (g.D.Disk.state c.args.disk.now) (g.D.Disk.state c.rewrite.new.disk) before c.args.self.now c.args.levels may c.in-Ok.prepared
    (prepared_as c.args.self.now.catalog c.args.levels c.in-Ok.prepared _ _ c.as_slice-oldest.ensures c.as_slice-newest.ensures c.in-Ok.ensures.prepared)
    _ c.deref.ensures.value (c.deref-2.ensures.value ∙ c.in-Ok-from_slice.ensures.items ∙ c.deleted.ensures.value) c.bounds-next.result.0 c.bounds-next.result.1 (c.bounds-next.ensures.are.0 ∙ c.in-Ok.ensures.left.next) (c.bounds-next.ensures.are.1 ∙ c.in-Ok.ensures.left.location)
    c.rewrite.ensures.disk.images c.rewrite.ensures.held.stands (g.met.D.Disk.lawful c.args.disk.now) c.rewrite.ensures.opened.opened
    c.in-Err.fault c.in-Err.ensures.held.full c.in-Err.ensures.nothing.why (λ need gap e. ap g.D.Disk.state (c.in-Err.ensures.nothing.unwritten need gap e)) c.in-Err.ensures.disk.cause c.rewrite.ensures.disk.costs
    _ c.rewrite_fault.result c.rewrite_fault.ensures

pub returns-clause-puts : goal.returns-clause-puts
returns-clause-puts g c = λ before may.
    put_done g.D.Disk.tells (g.D.Disk.state c.args.disk.now) (g.D.Disk.state c.rewrite.new.disk) (g.met.D.Disk.lawful c.args.disk.now) (g.met.D.Disk.lawful c.rewrite.new.disk) before c.args.self.now c.args.levels may c.in-Ok.prepared
    (prepared_as c.args.self.now.catalog c.args.levels c.in-Ok.prepared _ _ c.as_slice-oldest.ensures c.as_slice-newest.ensures c.in-Ok.ensures.prepared)
    _ c.deref.ensures.value (c.deref-2.ensures.value ∙ c.in-Ok-from_slice.ensures.items ∙ c.deleted.ensures.value) c.bounds-next.result.0 c.bounds-next.result.1 (c.bounds-next.ensures.are.0 ∙ c.in-Ok.ensures.left.next) (c.bounds-next.ensures.are.1 ∙ c.in-Ok.ensures.left.location)
    (all_documents before may.agrees.intact) c.in-Ok-rewrite.done _ refl refl (sym c.deref-2.ensures.value) c.tail_of-self.ensures.0 c.tail_of-self.ensures.1 refl refl
    c.in-Ok-rewrite.ensures.answers.counts.0 c.in-Ok-rewrite.ensures.answers.counts.1 c.in-Ok-rewrite.ensures.answers.counts.2 c.in-Ok-rewrite.ensures.answers.rows c.in-Ok-rewrite.ensures.answers.extents c.in-Ok-rewrite.ensures.answers.none c.in-Ok-rewrite.ensures.disk.spared
    _ c.in-Ok.ensures.left c.put_levels.ensures.same c.put_levels.ensures.levels c.put_levels.ensures.gone c.put_levels.ensures.follows c.put_levels.ensures.knows
    refl c.in-Ok-rewrite.ensures.disk.durable c.rewrite.ensures.disk.costs c.rewrite.ensures.disk.images c.rewrite.ensures.held.stands c.in-Ok-rewrite.ensures.held.works c.in-Ok-rewrite.ensures.opened.opened_then c.rewrite.ensures.opened.opened _

pub returns-in_default-from_slice-clause-puts : goal.returns-in_default-from_slice-clause-puts
returns-in_default-from_slice-clause-puts g c = λ before may.
    put_nothing g.D.Disk.tells (g.D.Disk.state c.args.disk.now) (g.met.D.Disk.lawful c.args.disk.now) before c.args.self.now c.args.levels may _

pub returns-in_default-clause-puts : goal.returns-in_default-clause-puts
returns-in_default-clause-puts g c = λ before may.
    put_nothing g.D.Disk.tells (g.D.Disk.state c.args.disk.now) (g.met.D.Disk.lawful c.args.disk.now) before c.args.self.now c.args.levels may _
