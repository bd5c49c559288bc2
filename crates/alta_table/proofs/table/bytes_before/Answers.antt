use Rattle.std.proofs.Common.{◌≡◌, ◌+◌, [], length, take, sym, ap, ◌∙◌, arith}
use Rattle.std.proofs.lemmas.List.{get_or-map}
use Rattle.alta_content.specs.declared.document.DocRow.{DocRow}
use Rattle.alta_content.specs.Rows.{start}
use Rattle.alta_table.specs.Documents.{documents_bytes}
use Rattle.alta_table.specs.Places.{name_at}
use Rattle.alta_table.proofs.PlaceLaws.{first_rows, last_shorter}
use Rattle.alta_table.proofs.table.bytes_before.Goals as goal

pub put_documents-requires : goal.put_documents-requires
put_documents-requires c = first_rows start (c.args.row + 1) c.args.rows.now c.requires.documents

pub overflow_sub-result : goal.overflow_sub-result
overflow_sub-result c =
    let rows = c.args.rows.now in
    let row = c.index-rows-row.result in
    let name : c.as_bytes.result.now ≡ name_at rows c.args.row =
    c.as_bytes.ensures.value ∙ sym (get_or-map (λ (d : DocRow). d.name) rows c.args.row row [] c.requires.row) in
    let spelled : c.put_documents.new.out.items ≡ documents_bytes (take (c.args.row + 1) rows) = rw c.new-spelled.ensures.items at c.in_ok-put_documents.ensures.ok in
    omega (arith, ap length name, ap length spelled, c.len.ensures, last_shorter rows c.args.row c.requires.row)

pub returns : goal.returns
returns c =
    let rows = c.args.rows.now in
    let row = c.index-rows-row.result in
    let name : c.as_bytes.result.now ≡ name_at rows c.args.row =
    c.as_bytes.ensures.value ∙ sym (get_or-map (λ (d : DocRow). d.name) rows c.args.row row [] c.requires.row) in
    let spelled : c.put_documents.new.out.items ≡ documents_bytes (take (c.args.row + 1) rows) = rw c.new-spelled.ensures.items at c.in_ok-put_documents.ensures.ok in
    omega (arith, ap length name, ap length spelled, c.len.ensures, last_shorter rows c.args.row c.requires.row)
