use Rattle.std.proofs.Common.{arith}
use Rattle.alta_format.proofs.FormatLaws.{left_fits}
use Rattle.alta_table.specs.Terms.{terms_format}
use Rattle.alta_table.proofs.terms.read_marks.Goals as goal

pub overflow_sub-result : goal.overflow_sub-result
overflow_sub-result c = left_fits (terms_format c.args.count c.args.room) c.args.bytes.now c.in-Err-Broken.left (λ i. omega (arith, c.type_inv.bytes i)) (rw c.in-Err-Broken.field-0-is at c.in-Err-Broken.ensures.gives)
