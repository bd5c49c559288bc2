use Rattle.std.proofs.Common.{[]}
use Rattle.alta_level.proofs.Entries.{lists_rise}
use Rattle.alta_level.proofs.building.build.Goals as goal

pub put_lists-requires : goal.put_lists-requires
put_lists-requires c = lists_rise c.args.content.documents [] c.args.content.lists c.requires.lists_stand
