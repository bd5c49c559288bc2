use Rattle.std.proofs.Common.{length, refl, arith}
use Rattle.std.proofs.lemmas.List.{take_all}
use Rattle.alta_format.proofs.EntryLaws.{keeps_first, put_more, put_all}
use Rattle.alta_table.specs.Documents.{documents_table, row_bytes}
use Rattle.alta_content.specs.Rows.{MayFollow, start}
use Rattle.alta_table.proofs.Grown.{grown_more}
use Rattle.alta_table.proofs.RowLaws.{entries_are}
use Rattle.alta_table.proofs.writers.put_rows.Goals as goal

pub loop-row-init : goal.loop-row-init
loop-row-init c = record {
  keeps = entries_are start c.args.rows.now c.requires;
  spells = refl;
  grown = take_all (length c.args.out.now.items) c.args.out.now.items (omega arith);
}

pub put_row-requires : goal.put_row-requires
put_row-requires c = (keeps_first documents_table MayFollow (record { number = c.loop-row.number; end = c.loop-row.end }) c.loop-row.row-index c.args.rows.now c.row-item.result c.loop-row-test.true c.row-item.is c.loop-row.invariant.keeps).0

pub overflow_add-end : goal.overflow_add-end
overflow_add-end c =
    let (follows, more) = keeps_first documents_table MayFollow (record { number = c.loop-row.number; end = c.loop-row.end }) c.loop-row.row-index c.args.rows.now c.row-item.result c.loop-row-test.true c.row-item.is c.loop-row.invariant.keeps in
    omega (arith, follows.first_below, follows.few_cells)

pub overflow_sub-end : goal.overflow_sub-end
overflow_sub-end c =
    let (follows, more) = keeps_first documents_table MayFollow (record { number = c.loop-row.number; end = c.loop-row.end }) c.loop-row.row-index c.args.rows.now c.row-item.result c.loop-row-test.true c.row-item.is c.loop-row.invariant.keeps in
    omega (arith, follows.some_cells)

pub loop-row-preserved : goal.loop-row-preserved
loop-row-preserved c = record {
  keeps = (keeps_first documents_table MayFollow (record { number = c.loop-row.number; end = c.loop-row.end }) c.loop-row.row-index c.args.rows.now c.row-item.result c.loop-row-test.true c.row-item.is c.loop-row.invariant.keeps).1;
  spells = put_more documents_table row_bytes (record { number = c.loop-row.number; end = c.loop-row.end }) c.loop-row.row-index c.args.rows.now c.row-item.result _ _ _ c.loop-row-test.true c.row-item.is c.in_ok-put_row.ensures.ok c.loop-row.invariant.spells;
  grown = grown_more _ _ _ c.loop-row.invariant.grown c.in_ok-put_row.ensures.grown;
}

pub returns : goal.returns
returns c = record {
  ok = put_all documents_table row_bytes (record { number = c.loop-row.number; end = c.loop-row.end }) c.loop-row.row-index c.args.rows.now _ _ c.loop-row-test.false c.loop-row.invariant.spells;
  grown = c.loop-row.invariant.grown;
}
