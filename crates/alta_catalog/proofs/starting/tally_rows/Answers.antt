use Rattle.std.proofs.Common.{◌++◌, List, arith, subst, take}
use Rattle.std.proofs.lemmas.List.{take_all}
use Rattle.alta_content.specs.Rows.{start}
use Rattle.alta_content.specs.declared.document.DocRow.{DocRow}
use Rattle.alta_catalog.specs.Counting.{IsTally}
use Rattle.alta_catalog.proofs.TallyLaws.{cells_next, row_stands, tally_next}
use Rattle.alta_catalog.proofs.starting.tally_rows.Goals as goal

pub with_row-tally-requires-clause-some : goal.with_row-tally-requires-clause-some
with_row-tally-requires-clause-some c =
    (row_stands c.args.rows.now c.loop-row.row-index c.row-item.result c.loop-row-test.true c.row-item.is start c.requires.stand).0

pub with_row-tally-requires-clause-below : goal.with_row-tally-requires-clause-below
with_row-tally-requires-clause-below c =
    (row_stands c.args.rows.now c.loop-row.row-index c.row-item.result c.loop-row-test.true c.row-item.is start c.requires.stand).1

pub with_row-tally-requires-clause-documents : goal.with_row-tally-requires-clause-documents
with_row-tally-requires-clause-documents c =
    omega (arith, c.loop-row.invariant.documents, c.requires.documents, cells_next c.args.rows.now c.loop-row.row-index c.row-item.result c.loop-row-test.true c.row-item.is)

pub with_row-tally-requires-clause-words : goal.with_row-tally-requires-clause-words
with_row-tally-requires-clause-words c =
    omega (arith, c.loop-row.invariant.words, c.requires.words, cells_next c.args.rows.now c.loop-row.row-index c.row-item.result c.loop-row-test.true c.row-item.is)

pub loop-row-preserved : goal.loop-row-preserved
loop-row-preserved c =
    let rows = c.args.rows.now in
    let i = c.loop-row.row-index in
    let row = c.row-item.result in
    let next = cells_next rows i row c.loop-row-test.true c.row-item.is in
    record {
      counted = λ before is.
          tally_next rows i row c.loop-row-test.true c.row-item.is c.args.gone.now before c.with_row-tally.result
          (c.with_row-tally.ensures.tally (before ++ take i rows) (c.loop-row.invariant.counted before is));
      documents = omega (arith, next, c.loop-row.invariant.documents, c.with_row-tally.ensures.documents);
      words = omega (arith, next, c.loop-row.invariant.words, c.with_row-tally.ensures.words);
    }

pub returns-clause-tally : goal.returns-clause-tally
returns-clause-tally c = λ before is.
    subst (λ (rows : List DocRow). IsTally c.args.gone.now (before ++ rows) c.loop-row.tally) (take_all c.loop-row.row-index c.args.rows.now c.loop-row-test.false) (c.loop-row.invariant.counted before is)
