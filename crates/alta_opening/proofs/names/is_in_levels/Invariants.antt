use Rattle.std.proofs.Common.{◌≡◌, drop}
use Rattle.alta_meaning.specs.Known.{is_taken_by}
use Rattle.alta_meaning.specs.Opened.{live_in, table_rows}
use Rattle.alta_opening.proofs.names.is_in_levels.Given as goal

abbrev pub invariant-loop-level : goal.invariant-loop-level
invariant-loop-level l = is_taken_by l.name l.number (live_in l.deleted (table_rows l.levels)) ≡ is_taken_by l.name l.number (live_in l.deleted (table_rows (drop l.level-index l.levels)))
