use Rattle.std.proofs.Common.{◌≡◌, ◌+◌, take, length}
use Rattle.std.specs.Prelude.{sum_by}
use Rattle.alta_counts.specs.ByLevel.{between, levels_of}
use Rattle.alta_search.specs.Readers.{Each}
use Rattle.alta_search.specs.Words.{IsSoundSingle, single_list, single_place, single_left}
use Rattle.alta_search.proofs.Unions.{IsTermReader}
use Rattle.alta_counts.proofs.by_level.level_readers.Given as goal

abbrev pub invariant-loop-index : goal.invariant-loop-index
invariant-loop-index g l =
    Each (IsTermReader (λ u. between l.low l.high (levels_of l.tests u)) IsSoundSingle single_list single_list single_place single_left) (take l.index-index l.uses) l.readers.items
    × (l.steps ≡ l.fn.steps + sum_by (λ u. length (between l.low l.high (levels_of l.tests u))) (take l.index-index l.uses))
