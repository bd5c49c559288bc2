use Rattle.std.proofs.Common.{◌∙◌}
use Rattle.alta_table.specs.Marks.{rows_in}
use Rattle.alta_table.proofs.SearchLaws.{has_end_is}
use Rattle.alta_table.proofs.table.has_end.Goals as goal

pub returns : goal.returns
returns c = c.is_some.ensures ∙ has_end_is (rows_in c.args.terms.now) c.find_in.result c.find_in.ensures.row
