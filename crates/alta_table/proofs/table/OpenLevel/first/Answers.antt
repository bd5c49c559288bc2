use Rattle.alta_table.specs.Marks.{rows_in}
use Rattle.alta_table.proofs.SearchLaws.{some_term}
use Rattle.alta_table.proofs.table.OpenLevel.first.Goals as goal

pub at-requires-clause-row : goal.at-requires-clause-row
at-requires-clause-row c = some_term (rows_in c.self.inside.parts.terms) c.self.invariant.keeps.has_end
