use Rattle.alta_query.proofs.Names.{name_is, name_not}
use Rattle.alta_query.proofs.scan.named.Goals as goal

pub returns-then-name_ok : goal.returns-then-name_ok
returns-then-name_ok c = name_is c.args.name.now c.name_ok.result (rw c.as_bytes.ensures.value at c.name_ok.ensures) c.if-name_ok.true

pub returns-else-name_ok : goal.returns-else-name_ok
returns-else-name_ok c = name_not c.args.name.now c.name_ok.result (rw c.as_bytes.ensures.value at c.name_ok.ensures) c.if-name_ok.false
