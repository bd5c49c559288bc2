use Rattle.std.proofs.Common.{map, arith}
use Rattle.std.proofs.lemmas.List.{length-map}
use Rattle.alta_search.specs.Lists.{level_list}
use Rattle.alta_counts.proofs.Cutting.{cut_is}
use Rattle.alta_counts.proofs.by_level.up_to.Goals as goal

pub returns-else-last_at-place : goal.returns-else-last_at-place
returns-else-last_at-place c =
    cut_is c.args.place (map level_list c.args.levels.now) c.levels.at (omega (arith, c.levels.invariant.within, length-map c.args.levels.now level_list)) c.levels.invariant.below
    (λ _. omega (arith, c.last_at.ensures, c.if-last_at-place.false))

pub returns-after-levels : goal.returns-after-levels
returns-after-levels c =
    cut_is c.args.place (map level_list c.args.levels.now) c.levels.at (omega (arith, c.levels.invariant.within, length-map c.args.levels.now level_list)) c.levels.invariant.below
    (λ l. absurd (omega (arith, l, c.levels-test.false, length-map c.args.levels.now level_list)))
