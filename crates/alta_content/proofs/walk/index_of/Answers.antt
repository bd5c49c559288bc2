use Rattle.std.proofs.Common.{◌≡◌, ◌+◌, ◌<◌, [], map, length, get_or, sym, ap, ◌∙◌, arith}
use Rattle.std.proofs.lemmas.List.{get_or-map, length-map}
use Rattle.alta_content.specs.Rows.{end_of, ends_of}
use Rattle.alta_content.specs.All.{shared_rows, rows_of_levels}
use Rattle.alta_content.proofs.Levels.{map_at, level_fits, index_fits, end_is, rows_fit, none_here}
use Rattle.alta_content.proofs.walk.index_of.Goals as goal

pub overflow_add-result : goal.overflow_add-result
overflow_add-result c =
    let levels = map shared_rows c.args.levels.now in let p = c.args.place in
    let l : p.level < length levels = omega (arith, c.if-place-levels.false, length-map c.args.levels.now shared_rows) in
    let are : c.ends-ends.result.now ≡ ends_of (get_or levels p.level []) =
    c.ends-ends.ensures.value ∙ ap ends_of (c.deref.ensures ∙ sym (map_at shared_rows c.args.levels.now p.level c.index-levels-place.result [] c.if-place-levels.false c.index-levels-place.is)) in
    let i = index_fits levels p.level p.before p.index c.requires.place l c.ends-ends.result.now are in
    omega (arith, rows_fit levels p.level p.before p.index c.requires.place l c.ends-ends.result.now are c.requires.rising, i)

pub returns-then-ends-place-clause-there : goal.returns-then-ends-place-clause-there
returns-then-ends-place-clause-there c = λ d.
    let levels = map shared_rows c.args.levels.now in let p = c.args.place in
    let l : p.level < length levels = omega (arith, c.if-place-levels.false, length-map c.args.levels.now shared_rows) in
    let are : c.ends-ends.result.now ≡ ends_of (get_or levels p.level []) =
    c.ends-ends.ensures.value ∙ ap ends_of (c.deref.ensures ∙ sym (map_at shared_rows c.args.levels.now p.level c.index-levels-place.result [] c.if-place-levels.false c.index-levels-place.is)) in
    let inside : p.index < length c.ends-ends.result.now = omega (arith, c.requires.stands c.if-place-levels.false, ap length are, length-map (get_or levels p.level []) end_of) in
    sym (get_or-map end_of (rows_of_levels levels) (p.before + p.index) d 0 (omega (arith, level_fits levels p.level p.before p.index c.requires.place l, c.requires.stands c.if-place-levels.false)))
    ∙ end_is levels p.level p.before p.index c.requires.place l c.ends-ends.result.now are p.index inside ∙ omega (arith, c.if-ends-place.true)

pub returns-else-ends-place-clause-none : goal.returns-else-ends-place-clause-none
returns-else-ends-place-clause-none c = λ _.
    let levels = map shared_rows c.args.levels.now in let p = c.args.place in
    let l : p.level < length levels = omega (arith, c.if-place-levels.false, length-map c.args.levels.now shared_rows) in
    let are : c.ends-ends.result.now ≡ ends_of (get_or levels p.level []) =
    c.ends-ends.ensures.value ∙ ap ends_of (c.deref.ensures ∙ sym (map_at shared_rows c.args.levels.now p.level c.index-levels-place.result [] c.if-place-levels.false c.index-levels-place.is)) in
    let inside : p.index < length c.ends-ends.result.now = omega (arith, c.requires.stands c.if-place-levels.false, ap length are, length-map (get_or levels p.level []) end_of) in
    none_here (ends_of (rows_of_levels levels)) (p.before + p.index) c.args.end c.requires.rising c.requires.passed
    (λ _. omega (arith, c.requires.here c.if-place-levels.false, end_is levels p.level p.before p.index c.requires.place l c.ends-ends.result.now are p.index inside, c.if-ends-place.false))
