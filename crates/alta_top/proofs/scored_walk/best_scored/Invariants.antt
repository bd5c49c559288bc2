use Rattle.std.proofs.Common.{◌≡◌, ◌+◌, ◌-◌, ◌<◌, ◌≤◌, length}
use Rattle.alta_codec.specs.declared.location.TheConstants.{TOP}
use Rattle.alta_content.specs.All.{IsPast}
use Rattle.alta_top.specs.Scoring.{AreScorable, HasScored}
use Rattle.alta_top.proofs.ScoredRows.{IsUpTo}
use Rattle.alta_top.proofs.scored_walk.best_scored.Given as goal

abbrev pub invariant-rows : goal.invariant-rows
invariant-rows g l =
    record {
      scored : HasScored l.fn.scorer l.scorer l.fn.steps l.steps;
      count : l.best.count ≡ l.fn.count;
      rows : l.walk.rows ≡ l.rows;
      past : IsPast l.walk (l.scorer.asked + 1);
      below : l.scorer.asked < TOP;
      most : l.total ≤ l.scorer.asked;
      ranks : length l.fn.scorer.uses ≤ 64 → AreScorable l.fn.scorer.asked l.rows → IsUpTo l.fn.scorer l.scorer l.gone l.rows l.fn.count l.best.kept l.total;
    }

abbrev pub decreases-rows : goal.decreases-rows
decreases-rows g l = TOP - l.scorer.asked
