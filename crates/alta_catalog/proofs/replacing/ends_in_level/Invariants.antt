use Rattle.std.proofs.Common.{◌≡◌, false, take}
use Rattle.alta_meaning.specs.Opened.{table_rows}
use Rattle.alta_catalog.specs.Replacing.{is_end}
use Rattle.alta_catalog.proofs.replacing.ends_in_level.Given as goal

abbrev pub invariant-loop-level : goal.invariant-loop-level
invariant-loop-level l = is_end (table_rows (take l.level-index l.levels)) l.end ≡ false
