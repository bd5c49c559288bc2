use Rattle.std.proofs.Common.{◌∙◌}
use Rattle.alta_content.specs.Rows.{end_of}
use Rattle.alta_opening.proofs.Searches.{found_rising}
use Rattle.alta_opening.proofs.names.is_deleted.Goals as goal

pub returns : goal.returns
returns c = c.is_ok.ensures.value ∙ found_rising c.args.deleted.now (end_of c.args.row.now) c.binary_search.result c.requires.rising c.binary_search.ensures.position
