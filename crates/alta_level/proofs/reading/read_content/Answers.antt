use Rattle.std.proofs.Common.{arith}
use Rattle.alta_content.specs.declared.content.Content.{Content}
use Rattle.alta_level.specs.Damage.{IsSegmentFault}
use Rattle.alta_level.specs.Segments.{IsSegment}
use Rattle.alta_level.proofs.Joins.{only_of, broken_of}
use Rattle.alta_level.proofs.reading.read_content.Goals as goal

pub returns-clause-only : goal.returns-clause-only
returns-clause-only c =
    let bytes = c.args.bytes.now in
    only_of {X = Content} (λ x. x) (IsSegment bytes) (IsSegmentFault bytes c.args.place) c.content_at.result c.content_at.ensures.found c.content_at.ensures.first
    (λ x y. c.segments_read_back.ensures.once bytes x y (λ i. omega (arith, c.type_inv.bytes i)) (omega (arith, c.requires)))
    (λ x p. c.segments_read_back.ensures.apart bytes c.args.place p x (λ i. omega (arith, c.type_inv.bytes i)) (omega (arith, c.requires)))

pub returns-clause-broken : goal.returns-clause-broken
returns-clause-broken c =
    let bytes = c.args.bytes.now in
    broken_of {X = Content} (λ x. x) (IsSegment bytes) (IsSegmentFault bytes c.args.place) c.content_at.result c.content_at.ensures.found c.content_at.ensures.first
    (λ p q. c.segments_read_back.ensures.first bytes c.args.place p q (λ i. omega (arith, c.type_inv.bytes i)) (omega (arith, c.requires)))
    (λ x p. c.segments_read_back.ensures.apart bytes c.args.place p x (λ i. omega (arith, c.type_inv.bytes i)) (omega (arith, c.requires)))
