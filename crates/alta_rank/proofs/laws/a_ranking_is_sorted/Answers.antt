use Rattle.alta_machine.specs.Ranked.{ranked}
use Rattle.alta_rank.proofs.Keeping.{ranked-permutation, ranked-falls, sorted-from_falls}
use Rattle.alta_rank.proofs.laws.a_ranking_is_sorted.Goals as goal

pub returns-clause-same : goal.returns-clause-same
returns-clause-same c = ranked-permutation

pub returns-clause-sorted : goal.returns-clause-sorted
returns-clause-sorted c list k d a b = sorted-from_falls (ranked list) (ranked-falls list) k d a b
