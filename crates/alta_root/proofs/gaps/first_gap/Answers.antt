use Rattle.std.proofs.Common.{arith, sym, IfSome, rules}
use Rattle.alta_root.specs.Gaps.{IsFirstGap, taken_by}
use Rattle.alta_root.proofs.GapFunctions.{first_is, first_of, none_is}
use Rattle.alta_root.proofs.GapLaws.{begins_behind, no_gap_behind}
use Rattle.alta_root.proofs.gaps.first_gap.Goals as goal

pub returns-in_err-at-in-Some-clause-none : goal.returns-in_err-at-in-Some-clause-none
returns-in_err-at-in-Some-clause-none c =
    no_gap_behind (taken_by c.args.root.now c.args.extra.now) c.args.bytes c.args.limit c.loop-at.at c.in-Some.extent c.from_residual.result c.in-Some.ensures.some c.loop-at.invariant.none_before c.ranges.limit.fits c.in_err-at-in-Some.ensures

pub loop-at-preserved : goal.loop-at-preserved
loop-at-preserved c = let h = c.in_ok-at-in-Some.ensures in record {
  behind = omega (arith, h, c.in-Some.ensures.some.ends, c.loop-at.invariant.behind);
  none_before = λ q gap. omega (arith, h, begins_behind (taken_by c.args.root.now c.args.extra.now) c.args.bytes c.args.limit c.loop-at.at q c.in-Some.extent c.in-Some.ensures.some (c.loop-at.invariant.none_before q gap) gap);
}

pub returns-else-bytes-limit-clause-none : goal.returns-else-bytes-limit-clause-none
returns-else-bytes-limit-clause-none c = λ q gap. let later = c.loop-at.invariant.none_before q gap in omega (arith, later, gap.before, c.if-bytes-limit.false, c.loop-at-test.true)

pub returns-after-loop-at-clause-none : goal.returns-after-loop-at-clause-none
returns-after-loop-at-clause-none c = λ q gap. let later = c.loop-at.invariant.none_before q gap in omega (arith, later, gap.before, c.loop-at-test.false)

pub returns-in-None-clause-first : goal.returns-in-None-clause-first
returns-in-None-clause-first c =
    sym (first_is (taken_by c.args.root.now c.args.extra.now) c.args.bytes c.args.limit c.loop-at.at
    (record { gap = record { behind = c.loop-at.invariant.behind; before = omega (arith, c.loop-at-test.true, c.if-bytes-limit.true); apart = c.in-None.ensures.none }; first = c.loop-at.invariant.none_before }))

pub returns-in_err-at-in-Some-clause-first : goal.returns-in_err-at-in-Some-clause-first
returns-in_err-at-in-Some-clause-first c =
    let taken = taken_by c.args.root.now c.args.extra.now in
    let some : IfSome c.from_residual.result (λ at. IsFirstGap taken c.args.bytes c.args.limit at) = search rules in
    first_of taken c.args.bytes c.args.limit c.from_residual.result some
    (no_gap_behind taken c.args.bytes c.args.limit c.loop-at.at c.in-Some.extent c.from_residual.result c.in-Some.ensures.some c.loop-at.invariant.none_before c.ranges.limit.fits c.in_err-at-in-Some.ensures)

pub returns-else-bytes-limit-clause-first : goal.returns-else-bytes-limit-clause-first
returns-else-bytes-limit-clause-first c =
    sym (none_is (taken_by c.args.root.now c.args.extra.now) c.args.bytes c.args.limit
    (λ q gap. let later = c.loop-at.invariant.none_before q gap in omega (arith, later, gap.before, c.if-bytes-limit.false, c.loop-at-test.true)))

pub returns-after-loop-at-clause-first : goal.returns-after-loop-at-clause-first
returns-after-loop-at-clause-first c =
    sym (none_is (taken_by c.args.root.now c.args.extra.now) c.args.bytes c.args.limit
    (λ q gap. let later = c.loop-at.invariant.none_before q gap in omega (arith, later, gap.before, c.loop-at-test.false)))
