use Rattle.std.proofs.Common.{◌-◌, ◌<◌, length, sym, subst, arith}
use Rattle.alta_content.specs.Rows.{IsPlaced, start}
use Rattle.alta_opening.proofs.RowLaws.{all_placed, last_leaves}
use Rattle.alta_opening.proofs.order.last_of.Goals as goal

is_placed : (c : goal.After-index-rows-rows) → IsPlaced c.index-rows-rows.result
is_placed c =
    let within : length c.args.rows.now - 1 < length c.args.rows.now = omega (arith, c.requires.some) in
    subst IsPlaced (sym c.index-rows-rows.is) (all_placed start c.args.rows.now c.requires.rows (length c.args.rows.now - 1) c.index-rows-rows.result within)

pub overflow_add-result : goal.overflow_add-result
overflow_add-result c = let placed = is_placed c in omega (arith, placed.positive, placed.some, placed.below)

pub overflow_sub-result : goal.overflow_sub-result
overflow_sub-result c = let placed = is_placed c in omega (arith, placed.positive)

pub returns : goal.returns
returns c =
    rw c.index-rows-rows.is
    (sym (last_leaves (length c.args.rows.now - 1) start c.args.rows.now c.index-rows-rows.result (omega (arith, c.requires.some))))
