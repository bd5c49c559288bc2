use Rattle.std.proofs.Common.{◌≡◌, ◌+◌, ◌<◌, [], map, take, take_all, length, get_or, refl, sym, ap, ◌∙◌, arith}
use Rattle.std.proofs.lemmas.List.Concat.{get_or-flat_map}
use Rattle.std.proofs.lemmas.List.{length-map, take-map}
use Rattle.std.proofs.lemmas.Option.{slice_get_read}
use Rattle.alta_content.specs.All.{shared_rows, rows_of_levels}
use Rattle.alta_content.proofs.Levels.{joined_fits, rows_of_levels-take, map_at}
use Rattle.alta_content.proofs.all.row_in.Goals as goal

pub returns-then-left-len-clause-there : goal.returns-then-left-len-clause-there
returns-then-left-len-clause-there c =
    let items = c.args.levels.now in let k = c.loop-level.level-index in let left = c.loop-level.left in
    let levels = map shared_rows items in let row = c.index-as_slice-left.result in
    let level : get_or levels k [] ≡ c.deref.result.now = map_at shared_rows items k c.level-item.result [] c.loop-level-test.true c.level-item.is ∙ sym c.deref.ensures in
    let second : get_or levels k [] ≡ c.as_slice.result.now = map_at shared_rows items k c.level-item.result [] c.loop-level-test.true c.level-item.is ∙ sym (c.as_slice.ensures ∙ c.deref-then-left-len.ensures) in
    let inside : left < length (get_or levels k []) = omega (arith, c.if-left-len.true, c.len.ensures, ap length level) in
    let here : k < length levels = omega (arith, c.loop-level-test.true, length-map items shared_rows) in
    let index : c.args.index ≡ length (rows_of_levels (take k levels)) + left = c.loop-level.invariant ∙ ap (λ ls. length (rows_of_levels ls) + left) (sym (take-map shared_rows k items)) in
    let within : c.args.index < length (rows_of_levels levels) = omega (arith, index, rows_of_levels-take levels k here, inside, joined_fits levels (k + 1)) in
    let read : get_or (rows_of_levels levels) c.args.index row ≡ row =
    ap (λ i. get_or (rows_of_levels levels) i row) index
    ∙ get_or-flat_map (λ rows. rows) levels k left [] row here inside
    ∙ ap (λ rows. get_or rows left row) second
    ∙ sym c.index-as_slice-left.is in
    slice_get_read (rows_of_levels levels) (length (rows_of_levels levels)) c.args.index row refl within (sym read)

pub loop-level-preserved : goal.loop-level-preserved
loop-level-preserved c =
    let items = c.args.levels.now in let k = c.loop-level.level-index in
    let levels = map shared_rows items in
    let level : get_or levels k [] ≡ c.deref.result.now = map_at shared_rows items k c.level-item.result [] c.loop-level-test.true c.level-item.is ∙ sym c.deref.ensures in
    let again : get_or levels k [] ≡ c.deref-in-loop-level.result.now = map_at shared_rows items k c.level-item.result [] c.loop-level-test.true c.level-item.is ∙ sym c.deref-in-loop-level.ensures in
    let here : k < length levels = omega (arith, c.loop-level-test.true, length-map items shared_rows) in
    omega (
      arith,
      c.loop-level.invariant,
      rows_of_levels-take levels k here,
      ap (λ ls. length (rows_of_levels ls)) (take-map shared_rows k items),
      ap (λ ls. length (rows_of_levels ls)) (take-map shared_rows (k + 1) items),
      ap length level,
      ap length again,
      c.len.ensures,
      c.len-left.ensures,
      c.if-left-len.false,
    )

pub returns-clause-behind : goal.returns-clause-behind
returns-clause-behind c =
    let items = c.args.levels.now in let k = c.loop-level.level-index in
    omega (arith, c.loop-level.invariant, ap (λ ls. length (rows_of_levels (map shared_rows ls))) (take_all k items c.loop-level-test.false))
