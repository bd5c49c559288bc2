use Rattle.std.proofs.Common.{◌≡◌, ◌<◌, ◌+◌, ◌++◌, [], map, length, get_or, sym, ap, ◌∙◌, arith}
use Rattle.std.proofs.lemmas.List.{length-map, take-map}
use Rattle.alta_content.specs.Rows.{end_of}
use Rattle.alta_content.specs.All.{rows_of_levels, shared_rows}
use Rattle.alta_content.proofs.Levels.{joined_fits, rows_of_levels-take, map_at, rising_fits}
use Rattle.alta_content.proofs.row_runs.RowRunsLen.len.Goals as goal

pub overflow_add-count : goal.overflow_add-count
overflow_add-count c =
    let items = c.as_slice-run-items.result.now in let k = c.loop-run.run-index in
    let levels = map shared_rows items in let rows = rows_of_levels (map shared_rows c.self.inside.full.items) ++ c.self.inside.last.items in
    let level : get_or levels k [] ≡ c.deref.result.now = map_at shared_rows items k c.run-item.result [] c.loop-run-test.true c.run-item.is ∙ sym c.deref.ensures in
    let here : k < length levels = omega (arith, c.loop-run-test.true, length-map items shared_rows) in
    omega (
      arith,
      c.loop-run.invariant.whole,
      c.loop-run.invariant.counted,
      rows_of_levels-take levels k here,
      joined_fits levels (k + 1),
      ap (λ ls. length (rows_of_levels ls)) (take-map shared_rows k items),
      ap length level,
      c.len-count-in-loop-run.ensures,
      rising_fits (map end_of rows) c.self.invariant,
      length-map rows end_of,
      ap length c.self.view_is,
    )
