use Rattle.std.proofs.Common.{◌≡◌, ◌++◌, map, take}
use Rattle.alta_meaning.specs.Opened.{live_in}
use Rattle.alta_catalog.specs.Names.{name_row}
use Rattle.alta_catalog.proofs.names.put_names.Given as goal

abbrev pub invariant-loop-i : goal.invariant-loop-i
invariant-loop-i l = l.names.items ≡ l.fn.names.items ++ map name_row (live_in l.gone (take l.i l.rows))
