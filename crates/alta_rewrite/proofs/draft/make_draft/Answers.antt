use Rattle.std.proofs.Common.{◌-◌, [], ap, arith, length, rules, ◌∙◌}
use Rattle.alta_root.specs.Gaps.{taken_by}
use Rattle.alta_rewrite.specs.Places.{as_list}
use Rattle.alta_rewrite.proofs.LevelLaws.{few_placed, may_open, some_segment}
use Rattle.alta_rewrite.proofs.PlaceLaws.{places_are}
use Rattle.alta_rewrite.proofs.draft.make_draft.Goals as goal

pub open_level-requires-clause-segment : goal.open_level-requires-clause-segment
open_level-requires-clause-segment c =
    let are = places_are c.args.limit c.args.root.now c.len.result c.len-2.result (length c.as_slice.result.now) c.in_ok-places.places c.in_ok-places.ensures in
    some_segment c.args.levels.oldest c.deref.result.now c.in_ok-places.places.oldest
    (may_open c.args.levels.oldest c.deref.result.now c.len.result (taken_by c.args.root.now []) c.args.limit c.in_ok-places.places.oldest c.ranges.limit.fits c.requires.oldest (omega (arith, c.len.ensures, c.deref.ensures.len)) (c.deref.ensures.value ∙ c.in_ok-oldest.ensures) are.oldest_is)

pub open_level-requires-clause-bytes : goal.open_level-requires-clause-bytes
open_level-requires-clause-bytes c =
    let are = places_are c.args.limit c.args.root.now c.len.result c.len-2.result (length c.as_slice.result.now) c.in_ok-places.places c.in_ok-places.ensures in
    (may_open c.args.levels.oldest c.deref.result.now c.len.result (taken_by c.args.root.now []) c.args.limit c.in_ok-places.places.oldest c.ranges.limit.fits c.requires.oldest (omega (arith, c.len.ensures, c.deref.ensures.len)) (c.deref.ensures.value ∙ c.in_ok-oldest.ensures) are.oldest_is).bytes

pub open_level-requires-clause-below : goal.open_level-requires-clause-below
open_level-requires-clause-below c =
    let are = places_are c.args.limit c.args.root.now c.len.result c.len-2.result (length c.as_slice.result.now) c.in_ok-places.places c.in_ok-places.ensures in
    (may_open c.args.levels.oldest c.deref.result.now c.len.result (taken_by c.args.root.now []) c.args.limit c.in_ok-places.places.oldest c.ranges.limit.fits c.requires.oldest (omega (arith, c.len.ensures, c.deref.ensures.len)) (c.deref.ensures.value ∙ c.in_ok-oldest.ensures) are.oldest_is).below

pub open_level-requires-2-clause-segment : goal.open_level-requires-2-clause-segment
open_level-requires-2-clause-segment c =
    let are = places_are c.args.limit c.args.root.now c.len.result c.len-2.result (length c.as_slice.result.now) c.in_ok-places.places c.in_ok-places.ensures in
    some_segment c.args.levels.newest c.deref-2.result.now c.in_ok-places.places.newest
    (may_open c.args.levels.newest c.deref-2.result.now c.len-2.result (taken_by c.args.root.now (as_list c.in_ok-places.places.oldest)) c.args.limit c.in_ok-places.places.newest c.ranges.limit.fits c.requires.newest (omega (arith, c.len-2.ensures, c.deref-2.ensures.len)) (c.deref-2.ensures.value ∙ c.in_ok-newest.ensures) are.newest_is)

pub open_level-requires-2-clause-bytes : goal.open_level-requires-2-clause-bytes
open_level-requires-2-clause-bytes c =
    let are = places_are c.args.limit c.args.root.now c.len.result c.len-2.result (length c.as_slice.result.now) c.in_ok-places.places c.in_ok-places.ensures in
    (may_open c.args.levels.newest c.deref-2.result.now c.len-2.result (taken_by c.args.root.now (as_list c.in_ok-places.places.oldest)) c.args.limit c.in_ok-places.places.newest c.ranges.limit.fits c.requires.newest (omega (arith, c.len-2.ensures, c.deref-2.ensures.len)) (c.deref-2.ensures.value ∙ c.in_ok-newest.ensures) are.newest_is).bytes

pub open_level-requires-2-clause-below : goal.open_level-requires-2-clause-below
open_level-requires-2-clause-below c =
    let are = places_are c.args.limit c.args.root.now c.len.result c.len-2.result (length c.as_slice.result.now) c.in_ok-places.places c.in_ok-places.ensures in
    (may_open c.args.levels.newest c.deref-2.result.now c.len-2.result (taken_by c.args.root.now (as_list c.in_ok-places.places.oldest)) c.args.limit c.in_ok-places.places.newest c.ranges.limit.fits c.requires.newest (omega (arith, c.len-2.ensures, c.deref-2.ensures.len)) (c.deref-2.ensures.value ∙ c.in_ok-newest.ensures) are.newest_is).below

pub next_root-root-requires-clause-few : goal.next_root-root-requires-clause-few
next_root-root-requires-clause-few c =
    let are = places_are c.args.limit c.args.root.now c.len.result c.len-2.result (length c.as_slice.result.now) c.in_ok-places.places c.in_ok-places.ensures in
    few_placed c.args.levels c.in_ok-places.places (length c.args.root.now.levels.items - c.args.levels.stay_from) (taken_by c.args.root.now []) (taken_by c.args.root.now (as_list c.in_ok-places.places.oldest)) c.args.limit c.len.result c.len-2.result
    (omega (arith, c.len.ensures, c.deref.ensures.len, ap length c.deref.ensures.value, ap length c.in_ok-oldest.ensures)) (omega (arith, c.len-2.ensures, c.deref-2.ensures.len, ap length c.deref-2.ensures.value, ap length c.in_ok-newest.ensures)) are.oldest_is are.newest_is c.requires.few

pub returns : goal.returns
returns c =
    let are = places_are c.args.limit c.args.root.now c.len.result c.len-2.result (length c.as_slice.result.now) c.in_ok-places.places c.in_ok-places.ensures in
    record {
      parts = (c.requires.oldest, c.requires.newest);
      oldest = c.in_ok-oldest.ensures;
      newest = c.in_ok-newest.ensures;
      list = c.in_ok-list.ensures;
      places = search rules;
      root_is = c.next_root-root.ensures;
      oldest_level = c.in_ok-oldest_level.ensures c.args.levels.oldest
          (may_open c.args.levels.oldest c.deref.result.now c.len.result (taken_by c.args.root.now []) c.args.limit c.in_ok-places.places.oldest c.ranges.limit.fits c.requires.oldest (omega (arith, c.len.ensures, c.deref.ensures.len)) (c.deref.ensures.value ∙ c.in_ok-oldest.ensures) are.oldest_is).segment_is;
      newest_level = c.in_ok-newest_level.ensures c.args.levels.newest
          (may_open c.args.levels.newest c.deref-2.result.now c.len-2.result (taken_by c.args.root.now (as_list c.in_ok-places.places.oldest)) c.args.limit c.in_ok-places.places.newest c.ranges.limit.fits c.requires.newest (omega (arith, c.len-2.ensures, c.deref-2.ensures.len)) (c.deref-2.ensures.value ∙ c.in_ok-newest.ensures) are.newest_is).segment_is;
    }
