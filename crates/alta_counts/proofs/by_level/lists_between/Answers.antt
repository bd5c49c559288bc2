use Rattle.std.proofs.Common.{map, arith}
use Rattle.std.proofs.lemmas.List.{length-map}
use Rattle.alta_search.specs.Lists.{level_list}
use Rattle.alta_counts.proofs.Cutting.{cut_le, cut_mono}
use Rattle.alta_counts.proofs.by_level.lists_between.Goals as goal

pub split_at-requires : goal.split_at-requires
split_at-requires c =
    omega (arith, c.up_to.ensures, cut_le c.args.high (map level_list c.levels_at-levels.result.now), length-map c.levels_at-levels.result.now level_list)

pub split_at-requires-2 : goal.split_at-requires-2
split_at-requires-2 c =
    omega (arith, c.up_to.ensures, c.up_to-2.ensures, cut_mono c.args.low c.args.high (map level_list c.levels_at-levels.result.now) c.requires.ordered, c.split_at.ensures.front_len)
