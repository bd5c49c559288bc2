use Rattle.std.proofs.Common.{◌≡◌, ◌≢◌, List, map, take, subst}
use Rattle.std.specs.BinaryHeap.{heap_items}
use Rattle.std.specs.Prelude.{AllPairs}
use Rattle.alta_rank.specs.Kept.{IsBest, KeptOf}
use Rattle.alta_machine.specs.Ranked.{number_of, ranked}
use Rattle.alta_machine.specs.declared.scored.Scored.{Scored}
use Rattle.alta_rank.proofs.Keeping.{best-sorted}
use Rattle.alta_rank.proofs.best.Best.into_sorted.Goals as goal

pub returns : goal.returns
returns c =
    let old = c.self.inside in let out = c.into_sorted_vec.result.items in
    subst (λ (s : KeptOf). (every : List Scored) → AllPairs ◌≢◌ (map number_of every) → IsBest s.count every s.kept → out ≡ take s.count (ranked every)) c.self.view_is
    (λ every differ best. best-sorted old.count every (heap_items old.kept) out differ best c.into_sorted_vec.ensures.permutation (c.into_sorted_vec.ensures.sorted c.self.invariant))
