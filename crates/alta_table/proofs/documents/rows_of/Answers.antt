use Rattle.std.proofs.Common.{rules, ◌≡◌, ◌<◌, ◌++◌, ◌∷◌, [], length, List, ℕ, ap, subst, ◌∙◌, arith}
use Rattle.alta_content.specs.declared.document.DocRow.{DocRow}
use Rattle.alta_content.specs.Rows.{Before, start}
use Rattle.alta_format.specs.Format.{read}
use Rattle.alta_format.proofs.EntryLaws.{from_start, goes_on, stops, closed, left_over}
use Rattle.alta_table.specs.Documents.{documents_format, documents_table, row_from}
use Rattle.alta_table.specs.Places.{EndsRow}
use Rattle.alta_table.proofs.PlaceLaws.{name_held, row_read, reads_none}
use Rattle.alta_table.proofs.documents.rows_of.Goals as goal

pub loop-init : goal.loop-init
loop-init c = record {
  reads = from_start documents_table c.args.count start _ c.args.bytes.now c.in_ok-rows.ensures.items;
  number = omega arith;
  end = omega arith;
  are = reads_none c.args.bytes.now _ c.in_ok-rows.ensures.items (λ i. omega (arith, c.type_inv.bytes i));
}

pub row_in-requires : goal.row_in-requires
row_in-requires c =
    let before : Before = record { number = c.loop.number; end = c.loop.end } in
    let row : DocRow = row_from c.in-Ok.fields in
    subst (λ (l : List ℕ). EndsRow l row.name c.in-Ok.behind.now) c.requires (name_held c.args.bytes.now c.loop.rows.items before c.loop.rest.now row c.in-Ok.behind.now c.in-Ok.ensures.gives c.loop.invariant.are)

pub returns-in-Err : goal.returns-in-Err
returns-in-Err c = stops documents_table c.in-Err.fault c.args.count c.loop.counter (record { number = c.loop.number; end = c.loop.end }) c.loop.rows.items c.loop.rest.now (read (documents_format c.args.count) c.args.bytes.now) c.loop-test.true c.in-Err.ensures.gives c.loop.invariant.reads

pub loop-preserved : goal.loop-preserved
loop-preserved c =
    let before : Before = record { number = c.loop.number; end = c.loop.end } in
    let row : DocRow = row_from c.in-Ok.fields in
    let pushed : c.push.new.self.items ≡ c.loop.rows.items ++ row ∷ [] = c.in_ok-push-in-Ok.ensures.items ∙ ap (λ (r : DocRow). c.loop.rows.items ++ r ∷ []) c.in_ok-row-in-Ok.ensures in
    record {
      reads = rw pushed (goes_on documents_table c.args.count c.loop.counter before c.loop.rows.items c.loop.rest.now row c.in-Ok.behind.now (read (documents_format c.args.count) c.args.bytes.now) c.loop-test.true c.in-Ok.ensures.gives c.loop.invariant.reads);
      number = c.in-Ok.ensures.number_below;
      end = c.in-Ok.ensures.end_below;
      are = row_read c.args.bytes.now c.loop.rows.items c.push.new.self.items before c.loop.rest.now row c.in-Ok.behind.now c.in-Ok.ensures.gives pushed c.loop.invariant.are;
    }

pub returns-then-not-is_empty : goal.returns-then-not-is_empty
returns-then-not-is_empty c =
    let some : 0 < length c.loop.rest.now = search rules in
    left_over documents_table c.args.count c.loop.counter (record { number = c.loop.number; end = c.loop.end }) c.loop.rows.items c.loop.rest.now (read (documents_format c.args.count) c.args.bytes.now) c.loop-test.false some c.loop.invariant.reads

pub returns : goal.returns
returns c =
    let none : length c.loop.rest.now ≡ 0 = search rules in
    closed documents_table c.args.count c.loop.counter (record { number = c.loop.number; end = c.loop.end }) c.loop.rows.items c.loop.rest.now (read (documents_format c.args.count) c.args.bytes.now) c.loop-test.false none c.loop.invariant.reads
