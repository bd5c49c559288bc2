use Rattle.std.proofs.Common.{List, ℕ, sym, subst, rules}
use Rattle.alta_machine.specs.PlanOf.{plan_of}
use Rattle.alta_loading.proofs.KeptLaws.{kept_moved}
use Rattle.alta_loading.specs.Kept.{AreKept}
use Rattle.alta_machine.specs.declared.document.Document.{Document}
use Rattle.alta_machine.specs.Deciding.{answers}
use Rattle.alta_search.specs.Documents.{AreToCome}
use Rattle.alta_search.specs.Shown.{ShowsDocuments}
use Rattle.alta_search.specs.Tops.{AreToRank}
use Rattle.alta_replies.proofs.LoadingLaws.{outside_of}
use Rattle.alta_store.specs.Agreement.{levels_of}
use Rattle.alta_store.specs.Answers.{IsOutside}
use Rattle.alta_table.specs.Tables.{Tables}
use Rattle.alta_replies.proofs.searching.load.Goals as goal

pub returns-in-Ok-load_ordered-clause-answers : goal.returns-in-Ok-load_ordered-clause-answers
returns-in-Ok-load_ordered-clause-answers g c = λ s q tell stands.
    let finds = c.a_search_sees_the_state.ensures.finds c.args.disk.now c.args.store.now c.requires.agrees s tell stands _ _ _ _ c.in-Ok.ensures in
    subst (λ (l : List Document). AreToCome (plan_of q) c.in-Ok-load_ordered.snapshot 0 (answers l q)) (sym finds.documents)
    (c.in-Ok-load_ordered.ensures.answers tell finds.contents finds.behind q finds.tables finds.segments finds.has)

pub returns-in-Ok-load_ordered-clause-ranked : goal.returns-in-Ok-load_ordered-clause-ranked
returns-in-Ok-load_ordered-clause-ranked g c = λ s q tell stands.
    let finds = c.a_search_sees_the_state.ensures.finds c.args.disk.now c.args.store.now c.requires.agrees s tell stands _ _ _ _ c.in-Ok.ensures in
    subst (λ (l : List Document). AreToRank (plan_of q) c.in-Ok-load_ordered.snapshot (answers l q)) (sym finds.documents)
    (c.in-Ok-load_ordered.ensures.ranked tell finds.contents finds.behind q finds.tables finds.segments finds.has)

pub returns-in-Ok-load_ordered-clause-shown : goal.returns-in-Ok-load_ordered-clause-shown
returns-in-Ok-load_ordered-clause-shown g c = λ s tell stands.
    let finds = c.a_search_sees_the_state.ensures.finds c.args.disk.now c.args.store.now c.requires.agrees s tell stands _ _ _ _ c.in-Ok.ensures in
    subst (λ (l : List Document). ShowsDocuments c.in-Ok-load_ordered.snapshot l) (sym finds.documents)
    (c.in-Ok-load_ordered.ensures.shown tell finds.contents finds.behind finds.tables finds.segments finds.has)

pub load_ordered-requires-clause-known : goal.load_ordered-requires-clause-known
load_ordered-requires-clause-known g c =
    subst (λ (levels : List Tables). AreKept g.D.Disk.tells (g.D.Disk.state c.args.disk.now).content levels c.args.kept.now) (sym c.in-Ok.ensures.levels_are) c.requires.known

pub returns-in-Ok-load_ordered-clause-loads : goal.returns-in-Ok-load_ordered-clause-loads
returns-in-Ok-load_ordered-clause-loads g c = record {
  loaded = search rules;
  undamaged = λ s tell stands. tt;
  known =
      kept_moved g.D.Disk.tells (g.D.Disk.state c.args.disk.now).content (g.D.Disk.state c.load_ordered.new.disk).content (λ told. sym (c.load_ordered.ensures.loads.retrieves.reads.content told)) (levels_of c.args.store.now)
      c.load_ordered.new.kept
      (subst (λ (levels : List Tables). AreKept g.D.Disk.tells (g.D.Disk.state c.args.disk.now).content levels c.load_ordered.new.kept) c.in-Ok.ensures.levels_are c.load_ordered.ensures.known);
}

pub returns-in-Err-clause-loads : goal.returns-in-Err-clause-loads
returns-in-Err-clause-loads g c = record {
  loaded = search rules;
  undamaged = λ s tell stands.
      let finds = c.a_search_sees_the_state.ensures.finds c.args.disk.now c.args.store.now c.requires.agrees s tell stands _ _ _ _ c.in-Ok.ensures in
      subst IsOutside (sym c.load_fault.ensures) (outside_of c.load_ordered.result c.in-Err.fault c.in-Err.is (c.load_ordered.ensures.undamaged tell finds.contents finds.tables finds.segments));
  known =
      kept_moved g.D.Disk.tells (g.D.Disk.state c.args.disk.now).content (g.D.Disk.state c.load_ordered.new.disk).content (λ told. sym (c.load_ordered.ensures.loads.retrieves.reads.content told)) (levels_of c.args.store.now)
      c.load_ordered.new.kept
      (subst (λ (levels : List Tables). AreKept g.D.Disk.tells (g.D.Disk.state c.args.disk.now).content levels c.load_ordered.new.kept) c.in-Ok.ensures.levels_are c.load_ordered.ensures.known);
}
