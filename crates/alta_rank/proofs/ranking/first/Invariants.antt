use Rattle.std.proofs.Common.{◌≡◌}
use Rattle.alta_rank.specs.Kept.{IsBest}
use Rattle.alta_rank.proofs.ranking.first.Given as goal

abbrev pub invariant-answers : goal.invariant-answers
invariant-answers l =
    record {
      can_next : (goal.iterator-answers).can_next l.answer-iterator;
      is_finite : (goal.iterator-answers).is_finite l.answer-iterator;
      count : l.best.count ≡ l.count;
      best : IsBest l.count l.yielded l.best.kept;
    }
