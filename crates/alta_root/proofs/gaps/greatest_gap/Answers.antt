use Rattle.std.proofs.Common.{List, subst}
use Rattle.alta_codec.specs.declared.extent.Extent.{Extent}
use Rattle.alta_root.specs.Gaps.{IsLongestGap, taken_by}
use Rattle.alta_root.specs.Meeting.{IsLonger}
use Rattle.alta_root.proofs.GapFunctions.{one_longest}
use Rattle.alta_root.proofs.GapLaws.{longest_of}
use Rattle.alta_root.proofs.gaps.greatest_gap.Goals as goal

pub returns : goal.returns
returns c =
    let root = c.args.root.now in
    let levels = subst (λ (l : List Extent). IsLonger (taken_by root c.args.extra.now) c.args.limit l c.longest_behind-behind_list.result c.longest_behind-behind_levels.result) c.as_slice.ensures.value c.longest_behind-behind_levels.ensures in
    let is : IsLongestGap (taken_by root c.args.extra.now) c.args.limit c.longest_behind.result = longest_of root.deletions root.levels.items c.args.extra.now c.args.limit c.room_at-at_head.result c.longest_behind-behind_list.result c.longest_behind-behind_levels.result c.longest_behind.result
    c.room_at-at_head.ensures c.longest_behind-behind_list.ensures levels c.longest_behind.ensures in
    record { longest = is; greatest = one_longest (taken_by root c.args.extra.now) c.args.limit c.longest_behind.result is }
