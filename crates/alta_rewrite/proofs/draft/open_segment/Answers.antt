use Rattle.std.proofs.Common.{arith, ap, Some}
use Rattle.alta_table.specs.Tables.{Tables}
use Rattle.alta_rewrite.proofs.SegmentLaws.{no_damage, no_fault, table_is}
use Rattle.alta_rewrite.proofs.draft.open_segment.Goals as goal

pub unreachable-requires : goal.unreachable-requires
unreachable-requires c =
    no_fault c.requires.segment.0 c.args.segment.now c.args.extent.place c.args.extent.bytes c.requires.segment.1 (λ i. omega (arith, c.type_inv.segment i)) c.requires.bytes c.requires.below
    c.in_default.field-0 c.in_default.ensures.exact

pub unreachable-requires-in-Err-Damaged : goal.unreachable-requires-in-Err-Damaged
unreachable-requires-in-Err-Damaged c =
    no_damage c.requires.segment.0 c.args.segment.now c.args.extent.place c.args.extent.bytes c.requires.segment.1 (λ i. omega (arith, c.type_inv.segment i)) c.requires.bytes c.requires.below
    c.in-Ok.found c.split_at.result.0.now c.in-Err-Damaged.field-0-0 c.in-Ok.ensures.exact c.split_at.ensures.front (rw c.in-Err-Damaged.field-0-is at c.in-Err-Damaged.ensures.exact)

pub returns-in-Ok-open : goal.returns-in-Ok-open
returns-in-Ok-open c = λ content is.
    ap (λ (t : Tables). Some t)
    (table_is content c.args.segment.now c.args.extent.place c.args.extent.bytes is (λ i. omega (arith, c.type_inv.segment i)) c.requires.bytes c.requires.below
    c.in-Ok.found c.split_at.result.0.now c.in-Ok-open.table c.in-Ok.ensures.exact c.split_at.ensures.front c.in-Ok-open.ensures.exact)
