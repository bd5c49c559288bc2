use Rattle.alta_catalog.proofs.KnownLaws.{one_known}
use Rattle.alta_catalog.proofs.laws.a_catalog_knows_one.Goals as goal

pub returns : goal.returns
returns c = one_known
