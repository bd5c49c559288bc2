use Rattle.alta_search.specs.Lists.{level_list}
use Rattle.alta_search.proofs.Parts.{rising_part}
use Rattle.alta_counts.proofs.by_level.last_at.Goals as goal

pub last_of-requires : goal.last_of-requires
last_of-requires c = rising_part level_list c.args.levels.now c.args.k c.index-levels-k.result c.requires.within c.index-levels-k.is c.requires.rising
