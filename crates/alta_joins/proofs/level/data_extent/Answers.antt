use Rattle.std.proofs.Common.{arith}
use Rattle.alta_joins.proofs.RowSteps.{some_row}
use Rattle.alta_joins.proofs.level.data_extent.Goals as goal

pub rows_extent-requires-clause-some : goal.rows_extent-requires-clause-some
rows_extent-requires-clause-some c = omega (arith, some_row c.args.level.now.terms c.documents-documents.ensures.kept.has_end, c.terms.ensures)
