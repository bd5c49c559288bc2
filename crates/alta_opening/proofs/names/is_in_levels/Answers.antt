use Rattle.std.proofs.Common.{◌≡◌, ◌∙◌, ◌+◌, ◌++◌, Bool, List, drop, refl, sym, ap, subst}
use Rattle.std.specs.Prelude.{◌||◌}
use Rattle.std.proofs.lemmas.List.{drop_all}
use Rattle.alta_content.specs.Rows.{AreDocuments}
use Rattle.alta_content.specs.declared.document.DocRow.{DocRow}
use Rattle.alta_meaning.specs.Known.{is_taken_by}
use Rattle.alta_meaning.specs.Opened.{live_in, table_rows}
use Rattle.alta_opening.proofs.EndLaws.{rows_next}
use Rattle.alta_opening.proofs.Numbered.{split_by}
use Rattle.alta_table.specs.Tables.{Tables}
use Rattle.alta_opening.proofs.names.is_in_levels.Goals as goal

pub loop-level-init : goal.loop-level-init
loop-level-init c = refl

pub is_in_rows-requires-clause-rows : goal.is_in_rows-requires-clause-rows
is_in_rows-requires-clause-rows c = subst AreDocuments (sym c.documents.ensures.rows) c.documents.ensures.kept.documents_stand

pub returns-then-is_in_rows : goal.returns-then-is_in_rows
returns-then-is_in_rows c =
    let i = c.loop-level.level-index in
    let levels = c.args.levels.now in
    let later = table_rows (drop (i + 1) levels) in
    let next : table_rows (drop i levels) ≡ c.documents.result.now ++ later =
    rows_next levels i c.level-item.result c.loop-level-test.true c.level-item.is ∙ ap (λ (rows : List DocRow). rows ++ later) (sym c.documents.ensures.rows) in
    sym (c.loop-level.invariant ∙ ap (λ (rows : List DocRow). is_taken_by c.args.name.now c.args.number (live_in c.args.deleted.now rows)) next
    ∙ split_by c.args.deleted.now c.args.name.now c.args.number c.documents.result.now later
    ∙ ap (λ (b : Bool). b || is_taken_by c.args.name.now c.args.number (live_in c.args.deleted.now later)) (sym c.is_in_rows.ensures ∙ c.if-is_in_rows.true))

pub loop-level-preserved : goal.loop-level-preserved
loop-level-preserved c =
    let i = c.loop-level.level-index in
    let levels = c.args.levels.now in
    let later = table_rows (drop (i + 1) levels) in
    let next : table_rows (drop i levels) ≡ c.documents.result.now ++ later =
    rows_next levels i c.level-item.result c.loop-level-test.true c.level-item.is ∙ ap (λ (rows : List DocRow). rows ++ later) (sym c.documents.ensures.rows) in
    c.loop-level.invariant ∙ ap (λ (rows : List DocRow). is_taken_by c.args.name.now c.args.number (live_in c.args.deleted.now rows)) next
    ∙ split_by c.args.deleted.now c.args.name.now c.args.number c.documents.result.now later
    ∙ ap (λ (b : Bool). b || is_taken_by c.args.name.now c.args.number (live_in c.args.deleted.now later)) (sym c.is_in_rows.ensures ∙ c.if-is_in_rows.false)

pub returns : goal.returns
returns c =
    sym (c.loop-level.invariant
    ∙ ap (λ (levels : List Tables). is_taken_by c.args.name.now c.args.number (live_in c.args.deleted.now (table_rows levels))) (drop_all c.loop-level.level-index c.args.levels.now c.loop-level-test.false))
