use Rattle.alta_catalog.proofs.KnowingLaws.{all_precede}
use Rattle.alta_catalog.proofs.catalog.Catalog.newest.Goals as goal

pub returns-clause-rise : goal.returns-clause-rise
returns-clause-rise c = λ s knows. all_precede c.args.self.now s knows
