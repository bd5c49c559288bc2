use Rattle.std.proofs.Common.{◌∙◌}
use Rattle.alta_search.proofs.Found.{held}
use Rattle.alta_top.proofs.scored_walk.is_gone.Goals as goal

pub returns : goal.returns
returns c = c.is_ok.ensures.value ∙ held c.args.gone.now c.args.end c.binary_search.result c.requires c.binary_search.ensures.bound c.binary_search.ensures.position
