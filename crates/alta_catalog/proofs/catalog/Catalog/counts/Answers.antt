use Rattle.alta_catalog.proofs.KnowingLaws.{counts_are}
use Rattle.alta_catalog.proofs.catalog.Catalog.counts.Goals as goal

pub returns : goal.returns
returns c = λ s knows. counts_are c.args.self.now s knows
