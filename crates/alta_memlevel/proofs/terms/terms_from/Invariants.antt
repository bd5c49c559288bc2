use Rattle.std.proofs.Common.{◌≡◌, take}
use Rattle.alta_memlevel.specs.Lists.{bytes_in}
use Rattle.alta_memlevel.proofs.terms.terms_from.Given as goal

abbrev pub invariant-loop-term : goal.invariant-loop-term
invariant-loop-term l = l.found.items ≡ bytes_in (take l.term-index l.term-items)
