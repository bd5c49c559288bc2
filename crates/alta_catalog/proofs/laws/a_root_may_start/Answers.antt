use Rattle.alta_catalog.proofs.MayLaws.{may_start}
use Rattle.alta_catalog.proofs.laws.a_root_may_start.Goals as goal

pub returns : goal.returns
returns c = may_start
