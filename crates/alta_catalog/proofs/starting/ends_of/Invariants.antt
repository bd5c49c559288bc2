use Rattle.std.proofs.Common.{◌≡◌, take}
use Rattle.alta_catalog.proofs.starting.ends_of.Given as goal

abbrev pub invariant-loop-end : goal.invariant-loop-end
invariant-loop-end l = l.gone ≡ take l.end-index l.ends
