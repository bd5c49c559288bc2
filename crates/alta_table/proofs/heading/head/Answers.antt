use Rattle.std.proofs.Common.{min, arith}
use Rattle.alta_format.specs.Format.{FirstBroken}
use Rattle.alta_format.proofs.FormatLaws.{AreBytes-take, part_first, part_found}
use Rattle.alta_table.specs.Tables.{HasHead, head_format, head_part, read_head}
use Rattle.alta_table.specs.declared.sizes.Head.{Head}
use Rattle.alta_table.proofs.Opened.{always_first, always_read}
use Rattle.alta_table.proofs.heading.head.Goals as goal

pub returns-clause-found : goal.returns-clause-found
returns-clause-found c =
    always_read (λ (h : Head). h) c.read_front.result (read_head c.args.bytes.now c.args.place c.args.total) (HasHead c.args.bytes.now c.args.total)
    (λ h e. part_found (head_format c.args.total) (head_part c.args.bytes.now c.args.total) c.args.place h (AreBytes-take (min 32 c.args.total) c.args.bytes.now (λ i. omega (arith, c.type_inv.bytes i))) e)
    c.read_front.ensures.exact

pub returns-clause-first : goal.returns-clause-first
returns-clause-first c =
    always_first (λ (h : Head). h) c.read_front.result (read_head c.args.bytes.now c.args.place c.args.total) (FirstBroken (head_format c.args.total) (head_part c.args.bytes.now c.args.total) c.args.place)
    (λ p e. part_first (head_format c.args.total) (head_part c.args.bytes.now c.args.total) c.args.place p (AreBytes-take (min 32 c.args.total) c.args.bytes.now (λ i. omega (arith, c.type_inv.bytes i))) e)
    c.read_front.ensures.exact
