use Rattle.std.proofs.Common.{◌≡◌, ◌≤◌, length}
use Rattle.alta_top.specs.Scoring.{AreScorable, HasScored}
use Rattle.alta_search.specs.Told.{rows_at}
use Rattle.alta_top.proofs.Ranks.{IsRanking}
use Rattle.alta_top.proofs.ranking.best_of.Given as goal

abbrev pub invariant-loop-index : goal.invariant-loop-index
invariant-loop-index g l =
    record {
      scored : HasScored l.fn.scorer l.scorer l.fn.steps l.steps;
      count : l.best.count ≡ l.fn.count;
      ranks : length l.fn.scorer.uses ≤ 64 → AreScorable l.fn.scorer.asked (rows_at l.rows l.picks)
          → IsRanking l.fn.scorer l.scorer l.rows l.picks l.index-index l.fn.count l.best.kept;
    }
