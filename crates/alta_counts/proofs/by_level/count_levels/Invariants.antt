use Rattle.alta_counts.specs.ByLevel.{levels_of, ends_at, leading_size}
use Rattle.alta_counts.proofs.LevelWalks.{IsCounting}
use Rattle.alta_counts.proofs.by_level.count_levels.Given as goal

abbrev pub invariant-loop-at : goal.invariant-loop-at
invariant-loop-at g l =
    IsCounting (levels_of l.tests) l.ends l.words l.negated (leading_size l.tests l.asking l.words) (ends_at l.tests l.asking l.ends l.words l.negated) l.gone l.live l.low l.fn.steps l.steps
