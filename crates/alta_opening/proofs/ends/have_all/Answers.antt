use Rattle.std.proofs.Common.{◌≡◌, ◌+◌, ◌++◌, drop, take, List, sym, ap, subst, ◌∙◌}
use Rattle.alta_content.specs.Rows.{AreDocumentsBehind, start}
use Rattle.alta_content.specs.declared.document.DocRow.{DocRow}
use Rattle.alta_meaning.specs.Opened.{table_rows}
use Rattle.alta_opening.specs.Rows.{are_ends, behind_rows}
use Rattle.alta_opening.proofs.EndLaws.{all_passed, rows_next, rows_stand}
use Rattle.alta_opening.proofs.ends.have_all.Goals as goal

pub returns-in-None : goal.returns-in-None
returns-in-None c =
    let i = c.loop-level.level-index in
    let levels = c.args.levels.now in
    let later = table_rows (drop (i + 1) levels) in
    let next : table_rows (drop i levels) ≡ c.documents.result.now ++ later =
    rows_next levels i c.level-item.result c.loop-level-test.true c.level-item.is ∙ ap (λ (rows : List DocRow). rows ++ later) (sym c.documents.ensures.rows) in
    let before = behind_rows start (table_rows (take i levels)) in
    sym (c.loop-level.invariant.passed ∙ ap (λ (rows : List DocRow). are_ends rows (drop c.loop-level.at c.args.deleted.now)) next
    ∙ c.in-None.ensures.missing before later (subst (AreDocumentsBehind before) next (rows_stand levels i c.requires.rows)))

pub loop-level-preserved : goal.loop-level-preserved
loop-level-preserved c =
    let i = c.loop-level.level-index in
    let levels = c.args.levels.now in
    let later = table_rows (drop (i + 1) levels) in
    let next : table_rows (drop i levels) ≡ c.documents.result.now ++ later =
    rows_next levels i c.level-item.result c.loop-level-test.true c.level-item.is ∙ ap (λ (rows : List DocRow). rows ++ later) (sym c.documents.ensures.rows) in
    let before = behind_rows start (table_rows (take i levels)) in
    record {
      within = c.in-Some.ensures.within;
      passed =
          c.loop-level.invariant.passed ∙ ap (λ (rows : List DocRow). are_ends rows (drop c.loop-level.at c.args.deleted.now)) next
          ∙ c.in-Some.ensures.passed before later (subst (AreDocumentsBehind before) next (rows_stand levels i c.requires.rows));
    }

pub returns : goal.returns
returns c = all_passed c.args.levels.now c.args.deleted.now c.loop-level.level-index c.loop-level.at c.loop-level-test.false c.loop-level.invariant.within ∙ sym c.loop-level.invariant.passed
