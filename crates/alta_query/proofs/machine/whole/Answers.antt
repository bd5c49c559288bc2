use Rattle.alta_query.proofs.Ended.{whole_made}
use Rattle.alta_query.proofs.machine.whole.Goals as goal

pub returns : goal.returns
returns c = whole_made _ _ _ _ _ c.all.ensures c.in_ok-push.ensures.items c.any.ensures
