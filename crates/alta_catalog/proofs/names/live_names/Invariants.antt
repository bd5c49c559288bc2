use Rattle.std.proofs.Common.{◌≡◌, map, take}
use Rattle.alta_content.specs.All.{rows_of_levels, shared_rows}
use Rattle.alta_meaning.specs.Opened.{live_in}
use Rattle.alta_catalog.specs.Names.{name_row}
use Rattle.alta_catalog.proofs.names.live_names.Given as goal

abbrev pub invariant-loop-run : goal.invariant-loop-run
invariant-loop-run l = l.names.items ≡ map name_row (live_in l.gone (rows_of_levels (map shared_rows (take l.run-index l.runs))))
