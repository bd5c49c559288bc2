use Rattle.std.proofs.Common.{◌≡◌, take}
use Rattle.std.specs.Prelude.{sum_by}
use Rattle.alta_search.proofs.LeadReaders.{size}
use Rattle.alta_search.proofs.leading.term_len.Given as goal

abbrev pub invariant-loop-list : goal.invariant-loop-list
invariant-loop-list l = l.sum ≡ sum_by size (take l.list-index l.levels)
