use Rattle.std.proofs.Common.{◌≡◌, ◌++◌, take}
use Rattle.std.specs.List.{filter}
use Rattle.alta_meaning.specs.Opened.{table_rows}
use Rattle.alta_catalog.specs.Replacing.{is_end}
use Rattle.alta_catalog.proofs.replacing.ends_to_come.Given as goal

abbrev pub invariant-loop-end : goal.invariant-loop-end
invariant-loop-end l = l.ends.items ≡ filter (is_end (l.oldest ++ (table_rows l.levels ++ l.newest))) (take l.end-index l.gone)
