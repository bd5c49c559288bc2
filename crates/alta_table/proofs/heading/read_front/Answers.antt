use Rattle.std.proofs.Common.{take, length-take, arith}
use Rattle.alta_format.proofs.FormatLaws.{left_fits, AreBytes-take}
use Rattle.alta_table.specs.Tables.{head_format}
use Rattle.alta_table.proofs.heading.read_front.Goals as goal

pub overflow_sub-result : goal.overflow_sub-result
overflow_sub-result c =
    let gives = rw c.in-Err-Broken.field-0-is at c.in-Err-Broken.ensures.reads.gives in
    let fits = AreBytes-take c.min-len.result c.args.bytes.now (λ i. omega (arith, c.type_inv.bytes i)) in
    let le = left_fits (head_format c.args.total) (take c.min-len.result c.args.bytes.now) c.in-Err-Broken.left fits (rw c.split_at.ensures.front at gives) in
    omega (arith, le, length-take c.min-len.result c.args.bytes.now)
