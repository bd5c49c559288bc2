use Rattle.std.proofs.Common.{◌≡◌, take}
use Rattle.std.specs.List.{filter}
use Rattle.alta_counts.specs.ByLevel.{has_lists}
use Rattle.alta_counts.proofs.by_level.present.Given as goal

abbrev pub invariant-loop-index : goal.invariant-loop-index
invariant-loop-index l = l.all.items ≡ filter (has_lists l.tests l.low l.high) (take l.index-index l.uses)
