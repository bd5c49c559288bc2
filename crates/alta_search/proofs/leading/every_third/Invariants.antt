use Rattle.std.proofs.Common.{◌≡◌, take}
use Rattle.alta_search.specs.Leads.{thirds}
use Rattle.alta_search.proofs.leading.every_third.Given as goal

abbrev pub invariant-loop-index : goal.invariant-loop-index
invariant-loop-index l = l.all.items ≡ take l.index (thirds l.uses)
