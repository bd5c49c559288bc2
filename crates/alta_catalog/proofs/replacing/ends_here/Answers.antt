use Rattle.std.proofs.Common.{◌<◌, ◌≤◌, ◌-◌, ◌∙◌, length, leb, nat_eq, ap, subst, sym, arith, rules}
use Rattle.std.proofs.lemmas.Bool.{le-ltb, leb-false, leb-true}
use Rattle.std.proofs.lemmas.List.Sorted.{IsPartitionPoint-from_clause, IsPartitionedBy-leb}
use Rattle.alta_codec.specs.declared.location.TheConstants.{TOP}
use Rattle.alta_content.specs.Rows.{end_of}
use Rattle.alta_content.specs.declared.document.DocRow.{DocRow}
use Rattle.alta_catalog.proofs.ComingLaws.{ends_before, ends_below, firsts_rise, last_begun, placed_at}
use Rattle.alta_catalog.proofs.replacing.ends_here.Goals as goal

pub end_of-requires-clause-some : goal.end_of-requires-clause-some
end_of-requires-clause-some c =
    let last = c.in-Some.ensures.item in
    let row = c.in-Some.last.now in
    subst (λ (r : DocRow). 1 ≤ r.cells) (sym last.1) (placed_at c.args.rows.now c.requires (length c.args.rows.now - 1) row (omega (arith, last.3.0))).some

pub end_of-requires-clause-below : goal.end_of-requires-clause-below
end_of-requires-clause-below c =
    let last = c.in-Some.ensures.item in
    let row = c.in-Some.last.now in
    subst (λ (r : DocRow). end_of r < TOP) (sym last.1) (placed_at c.args.rows.now c.requires (length c.args.rows.now - 1) row (omega (arith, last.3.0))).below

pub returns-then-end_of-end : goal.returns-then-end_of-end
returns-then-end_of-end c =
    let last = c.in-Some.ensures.item in
    let row = c.in-Some.last.now in
    sym (ends_below c.args.rows.now c.requires c.args.end row last.3.0 (subst (λ (r : DocRow). end_of r < c.args.end) last.1 (omega (arith, c.end_of.ensures, c.if-end_of-end.true))))

pub end_of-requires-then-behind-gt0-clause-some : goal.end_of-requires-then-behind-gt0-clause-some
end_of-requires-then-behind-gt0-clause-some c =
    let row = c.index-rows-behind.result in
    subst (λ (r : DocRow). 1 ≤ r.cells) (sym c.index-rows-behind.is) (placed_at c.args.rows.now c.requires (c.partition_point-behind.result - 1) row (omega (arith, c.partition_point-behind.ensures.bound, c.if-behind-gt0.true))).some

pub end_of-requires-then-behind-gt0-clause-below : goal.end_of-requires-then-behind-gt0-clause-below
end_of-requires-then-behind-gt0-clause-below c =
    let row = c.index-rows-behind.result in
    subst (λ (r : DocRow). end_of r < TOP) (sym c.index-rows-behind.is) (placed_at c.args.rows.now c.requires (c.partition_point-behind.result - 1) row (omega (arith, c.partition_point-behind.ensures.bound, c.if-behind-gt0.true))).below

pub returns-then-behind-gt0 : goal.returns-then-behind-gt0
returns-then-behind-gt0 c =
    let rows = c.args.rows.now in
    let end = c.args.end in
    let i = c.partition_point-behind.result in
    let row = c.index-rows-behind.result in
    let parted = IsPartitionedBy-leb (λ (r : DocRow). r.first) rows end (firsts_rise rows c.requires) in
    let point = IsPartitionPoint-from_clause (λ (r : DocRow). leb r.first end) rows i c.partition_point-behind.ensures.partitioned parted (λ a r q k. search rules) in
    let some : i - 1 < i = omega (arith, c.if-behind-gt0.true) in
    ap (λ n. nat_eq n end) c.end_of-then-behind-gt0.ensures
    ∙ last_begun rows c.requires (i - 1) end row (omega (arith, c.partition_point-behind.ensures.bound, some)) c.index-rows-behind.is
    (leb-true row.first end (ap (λ (r : DocRow). leb r.first end) c.index-rows-behind.is ∙ point.0 (i - 1) row (omega arith) some))
    (λ k d lies inside. leb-false _ _ (point.1 k d (omega (arith, lies)) inside))

pub returns-else-behind-gt0 : goal.returns-else-behind-gt0
returns-else-behind-gt0 c =
    let rows = c.args.rows.now in
    let end = c.args.end in
    let i = c.partition_point-behind.result in
    let parted = IsPartitionedBy-leb (λ (r : DocRow). r.first) rows end (firsts_rise rows c.requires) in
    let point = IsPartitionPoint-from_clause (λ (r : DocRow). leb r.first end) rows i c.partition_point-behind.ensures.partitioned parted (λ a r q k. search rules) in
    le-ltb 0 i c.if-behind-gt0.false
    ∙ sym (ends_before rows c.requires end (λ k d inside. leb-false _ _ (point.1 k d (omega (arith, c.if-behind-gt0.false)) inside)))
