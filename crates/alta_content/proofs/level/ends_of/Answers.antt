use Rattle.std.proofs.Common.{ap, arith}
use Rattle.std.proofs.lemmas.List.{get_or-map, length-map}
use Rattle.alta_content.specs.Rows.{end_of}
use Rattle.alta_content.proofs.level.ends_of.Goals as goal

pub end_of-requires-clause-some : goal.end_of-requires-clause-some
end_of-requires-clause-some c =
    let i = c.loop-row.row-index in let d = c.row-item.result in
    omega (arith, c.requires.positive i (omega (arith, c.loop-row-test.true, length-map c.args.rows.now end_of)), get_or-map end_of c.args.rows.now i d 0 c.loop-row-test.true, ap end_of c.row-item.is)

pub end_of-requires-clause-below : goal.end_of-requires-clause-below
end_of-requires-clause-below c =
    let i = c.loop-row.row-index in let d = c.row-item.result in
    omega (arith, c.requires.below i (omega (arith, c.loop-row-test.true, length-map c.args.rows.now end_of)), get_or-map end_of c.args.rows.now i d 0 c.loop-row-test.true, ap end_of c.row-item.is)
