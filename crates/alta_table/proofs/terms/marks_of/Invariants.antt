use Rattle.std.proofs.Common.{◌≡◌, ◌+◌, ◌/◌, ◌≤◌, List, length}
use Rattle.alta_format.specs.Format.{read}
use Rattle.alta_table.specs.declared.term.TermRow.{TermRow}
use Rattle.alta_table.specs.Marks.{AreMarks, IsBehind}
use Rattle.alta_table.specs.Terms.{terms_format}
use Rattle.alta_table.specs.Walks.{behind_of}
use Rattle.alta_table.proofs.WalkLaws.{IsRest}
use Rattle.alta_table.proofs.terms.marks_of.Given as goal

abbrev pub invariant-loop-row : goal.invariant-loop-row
invariant-loop-row l = record {
  rows : List TermRow;
  stands : IsBehind (read (terms_format l.count l.room) l.bytes) l.count l.room rows l.row (behind_of l.walk) l.walk.rest.now;
  are : AreMarks (read (terms_format l.count l.room) l.bytes) l.count l.room l.bytes rows l.marks.heads.items l.marks.marks.items;
  many : length l.marks.marks.items ≡ (l.row + 15) / 16;
  upto : l.row ≤ l.count;
  short : l.walk.len ≤ 129;
  rest : IsRest l.bytes l.walk.rest.now;
}
