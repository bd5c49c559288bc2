use Rattle.std.proofs.Common.{◌++◌, ◌∷◌, [], List, subst}
use Rattle.std.specs.BinaryHeap.{heap_items}
use Rattle.alta_rank.specs.Kept.{IsBest, KeptOf}
use Rattle.alta_machine.specs.declared.scored.Scored.{Scored}
use Rattle.alta_rank.proofs.Keeping.{best-more}
use Rattle.alta_rank.proofs.best.Best.put.Goals as goal

pub returns-clause-best : goal.returns-clause-best
returns-clause-best c =
    let old = c.self.inside in let new = heap_items c.keep.new.best in
    subst (λ (s : KeptOf). (every : List Scored) → IsBest s.count every s.kept → IsBest s.count (every ++ c.args.answer ∷ []) new) c.self.view_is
    (λ every best. best-more old.count every (heap_items old.kept) new c.args.answer best c.in_ok-keep.ensures.kept)
