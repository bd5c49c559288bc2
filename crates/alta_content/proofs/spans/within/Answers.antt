use Rattle.std.proofs.Common.{◌≡◌, ◌<◌, ◌≤◌, get_or, length, ltb, sym, ap, ◌∙◌, arith, rules}
use Rattle.std.proofs.lemmas.Bool.{ltb-true, ltb-false}
use Rattle.std.proofs.lemmas.List.Sorted.{IsPartitionPoint-from_clause, IsPartitionedBy-ltb}
use Rattle.std.specs.Prelude.{nat_le}
use Rattle.alta_content.specs.declared.spans.Span.{Span}
use Rattle.alta_content.proofs.Outside.{last_rises, within_at, within_none}
use Rattle.alta_content.proofs.spans.within.Goals as goal

pub returns-in-Some : goal.returns-in-Some
returns-in-Some c =
    let i = c.partition_point-i.result in
    let x = c.args.location in
    let d = c.in-Some.span.now in
    let parted = IsPartitionedBy-ltb (λ s. s.last) c.args.spans.now x (last_rises c.args.spans.now c.requires) in
    let point = IsPartitionPoint-from_clause (λ s. ltb s.last x) c.args.spans.now i c.partition_point-i.ensures.partitioned parted (λ a r q k. search rules) in
    let l : i < length c.args.spans.now = ltb-true i (length c.args.spans.now) (sym c.in-Some.ensures.lookup.0) in
    let at : get_or c.args.spans.now i d ≡ d = sym c.in-Some.ensures.lookup.1 in
    ap (λ s. nat_le s.first x) (sym at)
    ∙ sym (within_at c.args.spans.now i x d c.requires l
    (λ k m. ltb-true (get_or c.args.spans.now k d).last x (point.0 k d (omega arith) m))
    (ltb-false (get_or c.args.spans.now i d).last x (point.1 i d (omega arith) l)))

pub returns-in-None : goal.returns-in-None
returns-in-None c =
    let i = c.partition_point-i.result in
    let x = c.args.location in
    let d : Span = record { first = 0; last = 0 } in
    let parted = IsPartitionedBy-ltb (λ s. s.last) c.args.spans.now x (last_rises c.args.spans.now c.requires) in
    let point = IsPartitionPoint-from_clause (λ s. ltb s.last x) c.args.spans.now i c.partition_point-i.ensures.partitioned parted (λ a r q k. search rules) in
    let l : length c.args.spans.now ≤ i = ltb-false i (length c.args.spans.now) (sym c.in-None.ensures.lookup.0) in
    sym (within_none c.args.spans.now x d (λ k m. ltb-true (get_or c.args.spans.now k d).last x (point.0 k d (omega arith) (omega (arith, l, m)))))
