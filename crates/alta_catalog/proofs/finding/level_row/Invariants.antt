use Rattle.std.proofs.Common.{take}
use Rattle.alta_catalog.specs.Finding.{AreOther}
use Rattle.alta_meaning.specs.Opened.{table_rows}
use Rattle.alta_catalog.proofs.finding.level_row.Given as goal

abbrev pub invariant-loop-level : goal.invariant-loop-level
invariant-loop-level l = AreOther l.number (table_rows (take l.level-index l.levels))
