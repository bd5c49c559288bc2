use Rattle.alta_level.proofs.Apart.{apart_from}
use Rattle.alta_level.proofs.Walks.{all_are_ends}
use Rattle.alta_level.proofs.ranges.are_ends.Goals as goal

pub ends_from-requires-clause-apart : goal.ends_from-requires-clause-apart
ends_from-requires-clause-apart c = apart_from c.args.documents.now c.requires

pub returns : goal.returns
returns c = all_are_ends c.args.documents.now c.args.locations.now c.ends_from.result c.are_all_ends.result c.requires c.ends_from.ensures c.are_all_ends.ensures
