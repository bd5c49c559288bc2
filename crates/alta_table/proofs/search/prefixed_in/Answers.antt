use Rattle.alta_table.specs.Marks.{rows_in}
use Rattle.alta_table.proofs.SearchLaws.{range_in}
use Rattle.alta_table.proofs.search.prefixed_in.Goals as goal

pub returns : goal.returns
returns c =
    let first = c.point-first.ensures in
    let behind = c.point-behind.ensures in
    range_in (rows_in c.args.terms.now) c.args.prefix.now c.point-first.result.0 c.point-behind.result.0 first.within behind.within first.point behind.point
