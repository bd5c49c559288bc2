use Rattle.std.proofs.Common.{◌≡◌, take}
use Rattle.alta_loading.proofs.terms.all_near.Given as goal

abbrev pub invariant-loop-level : goal.invariant-loop-level
invariant-loop-level l = l.nears.items ≡ take l.level-index l.levels
