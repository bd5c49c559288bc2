use Rattle.std.proofs.Common.{◌+◌, ◌<◌, ◌++◌, length, drop, get_or, ℕ, sym, ap, subst, ◌∙◌, arith}
use Rattle.alta_content.specs.Rows.{IsPlaced, end_of}
use Rattle.alta_opening.specs.Rows.{are_ends}
use Rattle.alta_opening.proofs.EndLaws.{in_front, its_row, later_row, lower_row}
use Rattle.alta_opening.proofs.RowLaws.{all_placed}
use Rattle.alta_opening.proofs.ends.passed.Goals as goal
use Rattle.alta_opening.proofs.ends.passed.Goals.{then-deleted-at-2, else-deleted-at-2}

pub overflow_add-end : goal.overflow_add-end
overflow_add-end c =
    let placed : IsPlaced c.row-item.result = subst IsPlaced (sym c.row-item.is) (all_placed c.requires.rows.0 c.args.rows.now c.requires.rows.1 c.loop-row.row-index c.row-item.result c.loop-row-test.true) in
    omega (arith, placed.positive, placed.below)

pub overflow_sub-end : goal.overflow_sub-end
overflow_sub-end c =
    let placed : IsPlaced c.row-item.result = subst IsPlaced (sym c.row-item.is) (all_placed c.requires.rows.0 c.args.rows.now c.requires.rows.1 c.loop-row.row-index c.row-item.result c.loop-row-test.true) in
    omega (arith, placed.positive)

pub returns-then-deleted-at-clause-missing : goal.returns-then-deleted-at-clause-missing
returns-then-deleted-at-clause-missing c = λ before later are.
    let row = c.row-item.result in
    let i = c.loop-row.row-index in
    let at = c.loop-row.at in
    let here = in_front c.args.rows.now later i row c.loop-row-test.true c.row-item.is in
    let more : at < length c.args.deleted.now = omega (arith, c.loop-row.invariant.within, c.if-at-deleted.false) in
    c.loop-row.invariant.passed before later are
    ∙ later_row before (c.args.rows.now ++ later) are c.args.deleted.now c.requires.rising i row here.inside here.is at more c.if-deleted-at.true

pub loop-row-preserved : goal.loop-row-preserved
loop-row-preserved c =
    let row = c.row-item.result in
    let i = c.loop-row.row-index in
    let at = c.loop-row.at in
    let rows = c.args.rows.now in
    let deleted = c.args.deleted.now in
    let more : at < length deleted = omega (arith, c.loop-row.invariant.within, c.if-at-deleted.false) in
    elim c.if-deleted-at-2.branch [
      | then-deleted-at-2 w ↦ record {
        within = omega (arith, w.at-is, more);
        passed = λ before later are.
            let here = in_front rows later i row c.loop-row-test.true c.row-item.is in
            c.loop-row.invariant.passed before later are ∙ its_row before (rows ++ later) are deleted c.requires.rising i row here.inside here.is at more w.if-deleted-at-2.true
            ∙ ap (λ (n : ℕ). are_ends (drop (i + 1) (rows ++ later)) (drop n deleted)) (sym w.at-is);
      }
      | else-deleted-at-2 w ↦ record {
        within = omega (arith, w.at-is, more);
        passed = λ before later are.
            let here = in_front rows later i row c.loop-row-test.true c.row-item.is in
            let low : end_of row < get_or deleted at 0 = omega (arith, c.if-deleted-at.false, w.if-deleted-at-2.false) in
            c.loop-row.invariant.passed before later are ∙ lower_row before (rows ++ later) are deleted c.requires.rising i row here.inside here.is at more low
            ∙ ap (λ (n : ℕ). are_ends (drop (i + 1) (rows ++ later)) (drop n deleted)) (sym w.at-is);
      }
    ]
