use Rattle.std.proofs.Common.{◌≡◌, ◌<◌, ◌++◌, length, take}
use Rattle.std.specs.List.{filter}
use Rattle.alta_loading.specs.Met.{level_terms}
use Rattle.alta_machine.specs.declared.test.Test.TheVariants.{Begins}
use Rattle.alta_search.specs.Newest.{term_meets}
use Rattle.alta_loading.proofs.meeting.put_prefixed.Given as goal

abbrev pub invariant-loop-row : goal.invariant-loop-row
invariant-loop-row l = record {
  put : l.all.items ≡ l.initial.all.items ++ filter (term_meets (Begins l.start)) (take l.row (level_terms l.level));
  tables : l.cursor.tables ≡ l.level;
  here : l.row < length l.level.terms → l.cursor.row ≡ l.row;
}
