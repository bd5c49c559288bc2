use Rattle.std.proofs.Common.{◌≡◌, ◌<◌, ◌++◌, ◌∷◌, [], length, take, get_or, List, sym, ap, subst, ◌∙◌}
use Rattle.std.proofs.lemmas.List.{append-nil}
use Rattle.alta_content.specs.Rows.{AreDocuments, IsPlaced, start}
use Rattle.alta_content.specs.declared.document.DocRow.{DocRow}
use Rattle.alta_meaning.specs.Known.{Named}
use Rattle.alta_meaning.specs.Opened.{live_in, names_from, table_rows}
use Rattle.alta_meaning.specs.Names.{AreNames}
use Rattle.alta_opening.specs.Names.{live_behind, may_join}
use Rattle.alta_opening.proofs.Naming.{passed_row}
use Rattle.alta_opening.proofs.Numbered.{first_stand}
use Rattle.alta_opening.proofs.RowLaws.{all_placed}
use Rattle.alta_opening.proofs.names.note_names.Goals as goal

pub loop-i-init : goal.loop-i-init
loop-i-init c =
    let level = c.args.level.now in
    let live = live_in c.args.deleted.now (table_rows c.args.levels.now) in (
      ap (λ (l : List Named). names_from c.args.deleted.now level l 0 level.documents) (sym (append-nil live)),
      subst (AreNames c.reserve.new.self) (sym (append-nil live)) (c.reserve.ensures _ c.requires.names),
    )

pub join-requires-clause-before : goal.join-requires-clause-before
join-requires-clause-before c =
    let rows = c.documents-rows.result.now in
    let are : AreDocuments rows = subst AreDocuments (sym c.documents-rows.ensures.rows) c.documents-rows.ensures.kept.documents_stand in
    first_stand start rows are c.loop-i.i

pub join-requires-clause-placed : goal.join-requires-clause-placed
join-requires-clause-placed c =
    let rows = c.documents-rows.result.now in
    let are : AreDocuments rows = subst AreDocuments (sym c.documents-rows.ensures.rows) c.documents-rows.ensures.kept.documents_stand in
    subst IsPlaced (sym c.index-rows-i.is) (all_placed start rows are c.loop-i.i c.index-rows-i.result c.loop-i-test.true)

pub join-requires-clause-names : goal.join-requires-clause-names
join-requires-clause-names c =
    subst (λ (rows : List DocRow). AreNames c.loop-i.names (live_behind c.args.deleted.now c.args.levels.now (take c.loop-i.i rows))) (sym c.documents-rows.ensures.rows) c.loop-i.invariant.1

pub loop-i-preserved : goal.loop-i-preserved
loop-i-preserved c =
    let level = c.args.level.now in
    let live = live_in c.args.deleted.now (table_rows c.args.levels.now) in
    let row = c.index-rows-i.result in
    let inside : c.loop-i.i < length level.documents = subst (λ (rows : List DocRow). c.loop-i.i < length rows) c.documents-rows.ensures.rows c.loop-i-test.true in
    let is : row ≡ get_or level.documents c.loop-i.i row = c.index-rows-i.is ∙ ap (λ (rows : List DocRow). get_or rows c.loop-i.i row) c.documents-rows.ensures.rows in
    let seen = ap (λ (rows : List DocRow). live_behind c.args.deleted.now c.args.levels.now (take c.loop-i.i rows)) c.documents-rows.ensures.rows in
    passed_row c.args.deleted.now level c.loop-i.names live c.loop-i.i row inside is c.loop-i.invariant c.join.new.names
    (ap (λ (l : List Named). may_join c.args.deleted.now l row) (sym seen) ∙ sym c.in_ok-join.ensures.free ∙ c.if-not-branch.false)
    (subst (λ (l : List Named). AreNames c.join.new.names (l ++ live_in c.args.deleted.now (row ∷ []))) seen (c.in_ok-join.ensures.names c.if-not-branch.false))
