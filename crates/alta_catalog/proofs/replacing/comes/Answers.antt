use Rattle.std.proofs.Common.{◌++◌}
use Rattle.alta_meaning.specs.Opened.{table_rows}
use Rattle.alta_catalog.proofs.ComingLaws.{rise_behind, rise_front}
use Rattle.alta_catalog.proofs.replacing.comes.Goals as goal

pub ends_here-requires : goal.ends_here-requires
ends_here-requires c = rise_front c.args.oldest.now (table_rows c.args.levels.now ++ c.args.newest.now) c.requires

pub ends_here-requires-else-ends_in_level : goal.ends_here-requires-else-ends_in_level
ends_here-requires-else-ends_in_level c = rise_behind (table_rows c.args.levels.now) c.args.newest.now (rise_behind c.args.oldest.now (table_rows c.args.levels.now ++ c.args.newest.now) c.requires)
