use Rattle.std.proofs.Common.{map, arith}
use Rattle.std.proofs.lemmas.Bool.{ltb-true}
use Rattle.std.proofs.lemmas.List.{length-map}
use Rattle.alta_search.specs.Lists.{level_list}
use Rattle.alta_counts.proofs.Cutting.{cut_le, cleft_here}
use Rattle.alta_counts.proofs.by_level.is_cleft.Goals as goal

pub first_at-requires : goal.first_at-requires
first_at-requires c =
    omega (arith, c.up_to-at.ensures, cut_le c.args.place (map level_list c.args.levels.now), length-map c.args.levels.now level_list, c.if-at-levels.false)

pub returns : goal.returns
returns c = λ yes.
    let ls = map level_list c.args.levels.now in
    cleft_here c.args.place ls c.up_to-at.result c.up_to-at.ensures c.requires (omega (arith, ltb-true c.args.place c.first_at.result yes, c.first_at.ensures))
