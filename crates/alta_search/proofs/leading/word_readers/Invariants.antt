use Rattle.std.proofs.Common.{◌≡◌, ◌+◌, take}
use Rattle.std.specs.Prelude.{sum_by}
use Rattle.alta_search.specs.Lists.{lists_at, count_lists}
use Rattle.alta_search.specs.Readers.{Each, IsFresh}
use Rattle.alta_search.specs.Words.{IsSoundSingle, single_list, single_place, single_left}
use Rattle.alta_search.proofs.leading.word_readers.Given as goal

abbrev pub invariant-loop-index : goal.invariant-loop-index
invariant-loop-index g l =
    Each (λ t r. IsSoundSingle r × IsFresh single_list single_list single_place single_left (lists_at l.tests t) r) (take l.index-index l.uses) l.readers.items
    × (l.steps ≡ l.fn.steps + sum_by (λ t. count_lists (lists_at l.tests t)) (take l.index-index l.uses))
