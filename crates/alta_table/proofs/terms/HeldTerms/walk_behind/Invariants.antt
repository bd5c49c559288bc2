use Rattle.std.proofs.Common.{◌≡◌, ◌+◌, ◌*◌, ◌/◌, ◌≤◌}
use Rattle.alta_table.specs.Marks.{StandsBefore}
use Rattle.alta_table.specs.Walks.{behind_of}
use Rattle.alta_table.proofs.terms.HeldTerms.walk_behind.Given as goal

abbrev pub invariant-loop : goal.invariant-loop
invariant-loop l = record {
  mark_is : l.mark ≡ l.row / 16;
  stands : StandsBefore l.self (l.mark * 16 + l.counter) (behind_of l.walk) l.walk.rest.now;
  short : l.walk.len ≤ 129;
}
