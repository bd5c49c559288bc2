use Rattle.alta_compile.specs.View.{tree}
use Rattle.alta_query.specs.View.{shape}
use Rattle.alta_search.proofs.Conjoined.{asked_is}
use Rattle.alta_search.proofs.searching.asked.Goals as goal

pub returns-clause-plan : goal.returns-clause-plan
returns-clause-plan c = asked_is (shape c.args.query.now) (tree c.args.plan.now) c.in_ok-found.found c.requires c.in_ok-found.ensures
