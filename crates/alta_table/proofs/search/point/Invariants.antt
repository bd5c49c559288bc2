use Rattle.std.proofs.Common.{◌≡◌, ◌-◌, ◌<◌, ◌≤◌, ℕ, true, get_or}
use Rattle.alta_table.specs.declared.term.TermRow.{TermRow}
use Rattle.alta_table.specs.Marks.{StandsBefore, rows_in}
use Rattle.alta_table.specs.Search.{stands_by}
use Rattle.alta_table.specs.Walks.{behind_of}
use Rattle.alta_table.proofs.search.point.Given as goal

abbrev pub invariant-rows : goal.invariant-rows
invariant-rows l = record {
  stands : StandsBefore l.terms l.row (behind_of l.walk) l.walk.rest.now;
  short : l.walk.len ≤ 129;
  before : (i : ℕ) (d : TermRow) → i < l.row → stands_by l.prefix l.begun (get_or (rows_in l.terms) i d).term ≡ true;
}

abbrev pub decreases-rows : goal.decreases-rows
decreases-rows l = l.terms.count - l.row
