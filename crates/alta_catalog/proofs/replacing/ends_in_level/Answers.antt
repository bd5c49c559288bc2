use Rattle.std.proofs.Common.{◌∙◌, List, ap, subst, sym}
use Rattle.std.specs.Prelude.{Contains}
use Rattle.std.proofs.lemmas.List.Elements.{Contains-get_or}
use Rattle.alta_content.specs.Rows.{RowsRise}
use Rattle.alta_content.specs.declared.document.DocRow.{DocRow}
use Rattle.alta_content.proofs.Contents.{rows_rise}
use Rattle.alta_catalog.specs.Replacing.{is_end}
use Rattle.alta_catalog.proofs.ComingLaws.{ends_in_one}
use Rattle.alta_catalog.proofs.replacing.ends_in_level.Goals as goal

pub ends_here-requires : goal.ends_here-requires
ends_here-requires c = subst RowsRise (sym c.documents.ensures.rows) (rows_rise _ c.documents.ensures.kept.documents_stand)

pub returns-then-ends_here : goal.returns-then-ends_here
returns-then-ends_here c =
    let level = c.level-item.result in
    let end = c.args.end in
    let has : Contains c.args.levels.now level = subst (Contains c.args.levels.now) (sym c.level-item.is) (Contains-get_or c.args.levels.now c.loop-level.level-index level c.loop-level-test.true) in
    sym (ends_in_one c.args.levels.now level end has (ap (λ (rs : List DocRow). is_end rs end) (sym c.documents.ensures.rows) ∙ sym c.ends_here.ensures ∙ c.if-ends_here.true))
