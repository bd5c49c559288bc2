use Rattle.std.proofs.Common.{◌∙◌}
use Rattle.alta_content.proofs.Searches.{found-searched}
use Rattle.alta_content.proofs.spans.has.Goals as goal

pub returns : goal.returns
returns c = c.is_ok.ensures.value ∙ found-searched c.args.sorted.now c.args.location c.binary_search.result c.requires c.binary_search.ensures.position
