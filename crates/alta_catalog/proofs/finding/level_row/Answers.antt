use Rattle.std.proofs.Common.{subst, sym, List}
use Rattle.std.specs.Prelude.{Contains}
use Rattle.std.proofs.lemmas.List.Elements.{Contains-get_or}
use Rattle.alta_content.specs.declared.document.DocRow.{DocRow}
use Rattle.alta_catalog.specs.Finding.{AreOther}
use Rattle.alta_catalog.proofs.FindingLaws.{others_next, row_in_all, rows_taken}
use Rattle.alta_catalog.proofs.finding.level_row.Goals as goal

pub returns-in-Some-clause-some : goal.returns-in-Some-clause-some
returns-in-Some-clause-some c =
    let level = c.level-item.result in
    let i = c.loop-level.level-index in
    let found = c.in-Some.ensures.some in (
      row_in_all c.args.levels.now level c.in-Some.row.now
          (subst (Contains c.args.levels.now) (sym c.level-item.is) (Contains-get_or c.args.levels.now i level c.loop-level-test.true))
          (subst (λ (rows : List DocRow). Contains rows c.in-Some.row.now) c.documents.ensures.rows found.0),
      found.1,
    )

pub loop-level-preserved : goal.loop-level-preserved
loop-level-preserved c =
    others_next c.args.levels.now c.loop-level.level-index c.level-item.result c.loop-level-test.true c.level-item.is c.args.number c.loop-level.invariant
    (subst (AreOther c.args.number) c.documents.ensures.rows c.in-None.ensures.none)

pub returns-clause-none : goal.returns-clause-none
returns-clause-none c = rows_taken c.args.levels.now c.loop-level.level-index c.loop-level-test.false (AreOther c.args.number) c.loop-level.invariant
