use Rattle.std.proofs.Common.{◌≡◌, ◌+◌, ◌*◌, get_or, refl, ap, ◌∙◌, arith}
use Rattle.alta_postings.proofs.Tally.{sixteen, low_sixteen, open_is, rest_low, short_from, run_read}
use Rattle.alta_postings.proofs.lanes.scan_lanes.Goals as goal

pub overflow_sub-reach : goal.overflow_sub-reach
overflow_sub-reach c =
    let f = sixteen c.args.bytes.now c.args.at c.lane_sum-sum.result c.lane_sum-high.result c.lane_sum-longs.result c.last_long-over.result (λ i l. omega (arith, c.type_inv.bytes i)) c.requires.within
    c.lane_sum-sum.ensures.sum c.lane_sum-high.ensures.sum c.lane_sum-longs.ensures.sum c.last_long-over.ensures in
    omega (arith, f.under)

pub overflow_sub-count : goal.overflow_sub-count
overflow_sub-count c =
    let f = sixteen c.args.bytes.now c.args.at c.lane_sum-sum.result c.lane_sum-high.result c.lane_sum-longs.result c.last_long-over.result (λ i l. omega (arith, c.type_inv.bytes i)) c.requires.within
    c.lane_sum-sum.ensures.sum c.lane_sum-high.ensures.sum c.lane_sum-longs.ensures.sum c.last_long-over.ensures in
    omega (arith, f.long_few)

pub overflow_add-result-4 : goal.overflow_add-result-4
overflow_add-result-4 c =
    let f = sixteen c.args.bytes.now c.args.at c.lane_sum-sum.result c.lane_sum-high.result c.lane_sum-longs.result c.last_long-over.result (λ i l. omega (arith, c.type_inv.bytes i)) c.requires.within
    c.lane_sum-sum.ensures.sum c.lane_sum-high.ensures.sum c.lane_sum-longs.ensures.sum c.last_long-over.ensures in
    let low = rest_low c.last_long-over.result c.from.result f.over_one (omega (arith, c.from.ensures, c.type_inv.bytes (c.args.at + 16))) in
    omega (arith, c.requires.low, c.lane_sum-sum.ensures.low, c.lane_sum-high.ensures.low)

pub returns-clause-read : goal.returns-clause-read
returns-clause-read c = λ s y n r.
    let f = sixteen c.args.bytes.now c.args.at c.lane_sum-sum.result c.lane_sum-high.result c.lane_sum-longs.result c.last_long-over.result (λ i l. omega (arith, c.type_inv.bytes i)) c.requires.within
    c.lane_sum-sum.ensures.sum c.lane_sum-high.ensures.sum c.lane_sum-longs.ensures.sum c.last_long-over.ensures in
    let bytes = c.args.bytes.now in
    let rest = c.last_long-over.result * c.from.result in
    let k : c.args.at + 16 ≡ c.args.at + 15 + 1 = omega arith in
    let is_open = open_is bytes (c.args.at + 15) c.last_long-over.result rest f.over_is (omega (arith, c.type_inv.bytes (c.args.at + 15)))
    (ap (λ x. c.last_long-over.result * x) c.from.ensures ∙ ap (λ i. c.last_long-over.result * get_or bytes i 0) k) in
    let low = rest_low c.last_long-over.result c.from.result f.over_one (omega (arith, c.from.ensures, c.type_inv.bytes (c.args.at + 16))) in
    run_read bytes s y (λ i l. omega (arith, c.type_inv.bytes i)) c.args.before n c.args.at c.last_long-over.result rest _ _ _ c.requires.within
    (short_from bytes c.args.at c.requires.within (λ i l. c.are_gaps.ensures c.if-not-are_gaps.false i l)) is_open
    (omega (arith, f.sum_is, f.high_is, f.long_is, f.under)) (omega (arith, f.long_is, f.long_few, f.over_few))
    (omega (arith, c.requires.low, c.lane_sum-sum.ensures.low, c.lane_sum-high.ensures.low)) refl r

pub returns-clause-few : goal.returns-clause-few
returns-clause-few c =
    let f = sixteen c.args.bytes.now c.args.at c.lane_sum-sum.result c.lane_sum-high.result c.lane_sum-longs.result c.last_long-over.result (λ i l. omega (arith, c.type_inv.bytes i)) c.requires.within
    c.lane_sum-sum.ensures.sum c.lane_sum-high.ensures.sum c.lane_sum-longs.ensures.sum c.last_long-over.ensures in
    omega (arith, f.over_few)

pub returns-clause-within : goal.returns-clause-within
returns-clause-within c =
    let f = sixteen c.args.bytes.now c.args.at c.lane_sum-sum.result c.lane_sum-high.result c.lane_sum-longs.result c.last_long-over.result (λ i l. omega (arith, c.type_inv.bytes i)) c.requires.within
    c.lane_sum-sum.ensures.sum c.lane_sum-high.ensures.sum c.lane_sum-longs.ensures.sum c.last_long-over.ensures in
    omega (arith, f.over_one, c.requires.within)

pub returns-then-are_low-clause-read : goal.returns-then-are_low-clause-read
returns-then-are_low-clause-read c = λ s y n r.
    let bytes = c.args.bytes.now in
    let f = low_sixteen bytes c.args.at c.lane_sum-sum.result c.requires.within c.lane_sum-sum.ensures.sum (λ i l. c.are_low.ensures c.if-are_low.true i l) in
    run_read bytes s y (λ i l. omega (arith, c.type_inv.bytes i)) c.args.before n c.args.at 0 0 _ _ _ c.requires.within
    (short_from bytes c.args.at c.requires.within (λ i l. c.are_gaps.ensures c.if-not-are_gaps.false i l)) f.is_open
    (omega (arith, f.sum_is, f.high_is, f.long_is)) (omega (arith, f.long_is)) (omega (arith, c.requires.low, c.lane_sum-sum.ensures.low)) (omega arith) r
