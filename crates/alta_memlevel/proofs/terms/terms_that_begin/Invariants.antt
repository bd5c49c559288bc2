use Rattle.alta_memlevel.specs.Lists.{bytes_in}
use Rattle.alta_memlevel.proofs.Prefixes.{Picking}
use Rattle.alta_memlevel.proofs.terms.terms_that_begin.Given as goal

abbrev pub invariant-loop-term : goal.invariant-loop-term
invariant-loop-term l = Picking l.prefix (bytes_in l.found.items) l.term-iterator l.lists.entries
