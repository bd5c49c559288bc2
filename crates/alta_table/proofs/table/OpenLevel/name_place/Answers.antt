use Rattle.std.proofs.Common.{◌+◌, List, ℕ, length, take, ap, arith}
use Rattle.alta_content.specs.declared.document.DocRow.{DocRow}
use Rattle.alta_table.specs.Documents.{documents_bytes}
use Rattle.alta_table.specs.Tables.{Tables}
use Rattle.alta_table.proofs.PlaceLaws.{rows_below}
use Rattle.alta_table.proofs.table.OpenLevel.name_place.Goals as goal

pub overflow_add-result-2 : goal.overflow_add-result-2
overflow_add-result-2 c =
    let size : List DocRow → ℕ = λ rows. length (documents_bytes (take (c.args.row + 1) rows)) in
    omega (arith, c.in_ok-before.ensures, ap size c.documents.ensures.rows, ap (λ (t : Tables). size t.documents) c.self.view_is, rows_below c.self.inside.parts c.args.row c.self.invariant)
