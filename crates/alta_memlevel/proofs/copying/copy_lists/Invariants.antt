use Rattle.std.proofs.Common.{drop}
use Rattle.alta_memlevel.specs.Lists.{bytes_in}
use Rattle.alta_memlevel.proofs.Copied.{Copying}
use Rattle.alta_memlevel.proofs.copying.copy_lists.Given as goal

abbrev pub invariant-loop-term : goal.invariant-loop-term
invariant-loop-term l = Copying l.spans l.kept (bytes_in (drop l.term-index l.term-items)) l.lists.entries
