use Rattle.std.proofs.Common.{◌++◌, List, ap, arith, subst, sym, take}
use Rattle.alta_content.specs.Rows.{AreDocuments}
use Rattle.alta_content.specs.declared.document.DocRow.{DocRow}
use Rattle.alta_meaning.specs.Opened.{table_rows}
use Rattle.alta_catalog.specs.Counting.{IsTally, cells_in}
use Rattle.alta_catalog.proofs.FindingLaws.{rows_taken}
use Rattle.alta_catalog.proofs.TallyLaws.{level_cells, tally_level}
use Rattle.alta_catalog.proofs.starting.tally_levels.Goals as goal

pub tally_rows-tally-requires-clause-stand : goal.tally_rows-tally-requires-clause-stand
tally_rows-tally-requires-clause-stand c = subst AreDocuments (sym c.documents.ensures.rows) c.documents.ensures.kept.documents_stand

pub tally_rows-tally-requires-clause-documents : goal.tally_rows-tally-requires-clause-documents
tally_rows-tally-requires-clause-documents c =
    omega (arith, ap cells_in c.documents.ensures.rows, c.loop-level.invariant.documents, c.requires, level_cells c.args.levels.now c.loop-level.level-index c.level-item.result c.loop-level-test.true c.level-item.is)

pub tally_rows-tally-requires-clause-words : goal.tally_rows-tally-requires-clause-words
tally_rows-tally-requires-clause-words c =
    omega (arith, ap cells_in c.documents.ensures.rows, c.loop-level.invariant.words, c.requires, level_cells c.args.levels.now c.loop-level.level-index c.level-item.result c.loop-level-test.true c.level-item.is)

pub loop-level-preserved : goal.loop-level-preserved
loop-level-preserved c =
    let levels = c.args.levels.now in
    let i = c.loop-level.level-index in
    let level = c.level-item.result in
    let next = level_cells levels i level c.loop-level-test.true c.level-item.is in
    let same = ap cells_in c.documents.ensures.rows in
    record {
      counted =
          tally_level levels i level c.loop-level-test.true c.level-item.is c.args.gone.now c.tally_rows-tally.result
          (subst (λ (rows : List DocRow). IsTally c.args.gone.now (table_rows (take i levels) ++ rows) c.tally_rows-tally.result) c.documents.ensures.rows
          (c.tally_rows-tally.ensures.tally (table_rows (take i levels)) c.loop-level.invariant.counted));
      documents = omega (arith, next, same, c.loop-level.invariant.documents, c.tally_rows-tally.ensures.documents);
      words = omega (arith, next, same, c.loop-level.invariant.words, c.tally_rows-tally.ensures.words);
    }

pub returns : goal.returns
returns c = rows_taken c.args.levels.now c.loop-level.level-index c.loop-level-test.false (λ (rows : List DocRow). IsTally c.args.gone.now rows c.loop-level.tally) c.loop-level.invariant.counted
