use Rattle.std.proofs.Common.{◌≡◌, ◌<◌, [], map, length, get_or, sym, ap, ◌∙◌, arith}
use Rattle.std.proofs.lemmas.List.{length-map}
use Rattle.alta_content.specs.Rows.{ends_of}
use Rattle.alta_content.specs.All.{shared_rows}
use Rattle.alta_content.proofs.Levels.{map_at, end_is, rows_fit, front_passed, more_passed, next_place}
use Rattle.alta_content.proofs.walk.first_from.Goals as goal

pub index_from-requires-clause-passed : goal.index_from-requires-clause-passed
index_from-requires-clause-passed c =
    let levels = map shared_rows c.args.levels.now in let p = c.levels.place in let inv = c.levels.invariant in
    let l : p.level < length levels = omega (arith, c.levels-test.true, length-map c.args.levels.now shared_rows) in
    let are : c.ends-ends.result.now ≡ ends_of (get_or levels p.level []) =
    c.ends-ends.ensures.value ∙ ap ends_of (c.deref.ensures ∙ sym (map_at shared_rows c.args.levels.now p.level c.index-levels-place.result [] c.levels-test.true c.index-levels-place.is)) in
    front_passed levels p.level p.before p.index inv.place l c.ends-ends.result.now are c.args.end inv.passed

pub returns-then-place-ends-clause-before : goal.returns-then-place-ends-clause-before
returns-then-place-ends-clause-before c =
    let levels = map shared_rows c.args.levels.now in let p = c.levels.place in let inv = c.levels.invariant in
    let l : p.level < length levels = omega (arith, c.levels-test.true, length-map c.args.levels.now shared_rows) in
    let are : c.ends-ends.result.now ≡ ends_of (get_or levels p.level []) =
    c.ends-ends.ensures.value ∙ ap ends_of (c.deref.ensures ∙ sym (map_at shared_rows c.args.levels.now p.level c.index-levels-place.result [] c.levels-test.true c.index-levels-place.is)) in
    more_passed levels p.level p.before p.index inv.place l c.ends-ends.result.now are c.args.end c.index_from.result inv.passed c.index_from.ensures.within c.index_from.ensures.before

pub returns-then-place-ends-clause-here : goal.returns-then-place-ends-clause-here
returns-then-place-ends-clause-here c = λ _.
    let levels = map shared_rows c.args.levels.now in let p = c.levels.place in let inv = c.levels.invariant in
    let l : p.level < length levels = omega (arith, c.levels-test.true, length-map c.args.levels.now shared_rows) in
    let are : c.ends-ends.result.now ≡ ends_of (get_or levels p.level []) =
    c.ends-ends.ensures.value ∙ ap ends_of (c.deref.ensures ∙ sym (map_at shared_rows c.args.levels.now p.level c.index-levels-place.result [] c.levels-test.true c.index-levels-place.is)) in
    omega (arith, c.index_from.ensures.found c.if-place-ends.true, end_is levels p.level p.before p.index inv.place l c.ends-ends.result.now are c.index_from.result c.if-place-ends.true)

pub overflow_add-place-in-levels : goal.overflow_add-place-in-levels
overflow_add-place-in-levels c =
    let levels = map shared_rows c.args.levels.now in let p = c.levels.place in let inv = c.levels.invariant in
    let l : p.level < length levels = omega (arith, c.levels-test.true, length-map c.args.levels.now shared_rows) in
    let are : c.ends-ends.result.now ≡ ends_of (get_or levels p.level []) =
    c.ends-ends.ensures.value ∙ ap ends_of (c.deref.ensures ∙ sym (map_at shared_rows c.args.levels.now p.level c.index-levels-place.result [] c.levels-test.true c.index-levels-place.is)) in
    omega (arith, rows_fit levels p.level p.before p.index inv.place l c.ends-ends.result.now are c.requires.rising)

pub levels-preserved : goal.levels-preserved
levels-preserved c =
    let levels = map shared_rows c.args.levels.now in let p = c.levels.place in let inv = c.levels.invariant in
    let l : p.level < length levels = omega (arith, c.levels-test.true, length-map c.args.levels.now shared_rows) in
    let are : c.ends-ends.result.now ≡ ends_of (get_or levels p.level []) =
    c.ends-ends.ensures.value ∙ ap ends_of (c.deref.ensures ∙ sym (map_at shared_rows c.args.levels.now p.level c.index-levels-place.result [] c.levels-test.true c.index-levels-place.is)) in
    record {
      place = next_place levels p.level p.before p.index inv.place l c.ends-ends.result.now are;
      passed = λ k h. more_passed levels p.level p.before p.index inv.place l c.ends-ends.result.now are c.args.end c.index_from.result inv.passed
          c.index_from.ensures.within c.index_from.ensures.before k (omega (arith, h, c.if-place-ends.false));
    }
