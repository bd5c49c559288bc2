use Rattle.std.proofs.Common.{[], arith}
use Rattle.alta_format.proofs.FormatLaws.{left_fits, read_spells}
use Rattle.alta_table.specs.Documents.{documents_format}
use Rattle.alta_table.proofs.TableLaws.{documents_spelled}
use Rattle.alta_table.proofs.documents.read_documents.Goals as goal

pub overflow_sub-result : goal.overflow_sub-result
overflow_sub-result c = left_fits (documents_format c.args.count) c.args.bytes.now c.in-Err-Broken.left (λ i. omega (arith, c.type_inv.bytes i)) (rw c.in-Err-Broken.field-0-is at c.in-Err-Broken.ensures)

pub returns-in-Ok-rows_of-clause-stand : goal.returns-in-Ok-rows_of-clause-stand
returns-in-Ok-rows_of-clause-stand c =
    (documents_spelled c.args.count c.args.bytes.now c.in-Ok-rows_of.rows.items []
    (read_spells (documents_format c.args.count) c.args.bytes.now c.in-Ok-rows_of.rows.items [] (λ i. omega (arith, c.type_inv.bytes i)) c.in-Ok-rows_of.ensures)).0
