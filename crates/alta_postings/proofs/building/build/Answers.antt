use Rattle.std.proofs.Common.{arith}
use Rattle.alta_postings.proofs.Growing.{table_is}
use Rattle.alta_postings.proofs.building.build.Goals as goal

pub returns : goal.returns
returns c = table_is c.put_groups.new.out.items c.args.rows.now c.requires c.in_ok-put_groups.ensures (omega arith)
