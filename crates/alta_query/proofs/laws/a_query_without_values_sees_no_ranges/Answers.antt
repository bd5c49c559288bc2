use Rattle.alta_query.proofs.PlainCells.{sees_no_ranges}
use Rattle.alta_query.proofs.laws.a_query_without_values_sees_no_ranges.Goals as goal

pub returns : goal.returns
returns c = sees_no_ranges
