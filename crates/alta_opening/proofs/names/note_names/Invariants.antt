use Rattle.alta_meaning.specs.Opened.{live_in, table_rows}
use Rattle.alta_opening.proofs.Naming.{IsNoted}
use Rattle.alta_opening.proofs.names.note_names.Given as goal

abbrev pub invariant-loop-i : goal.invariant-loop-i
invariant-loop-i l = IsNoted l.deleted l.level l.names (live_in l.deleted (table_rows l.levels)) l.i
