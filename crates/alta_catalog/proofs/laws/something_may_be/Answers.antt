use Rattle.alta_catalog.proofs.MayLaws.{may_be}
use Rattle.alta_catalog.proofs.laws.something_may_be.Goals as goal

pub returns : goal.returns
returns c = may_be
