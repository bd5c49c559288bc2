use Rattle.alta_level.proofs.Quarters.{three_tests}
use Rattle.alta_level.proofs.ends.part_from.Goals as goal

pub returns-clause-before : goal.returns-clause-before
returns-clause-before c = (three_tests c.args.list.now c.args.low c.args.part c.args.to c.requires.rising c.requires.some c.requires.within _ _ _ c.from.ensures c.from-2.ensures c.from-3.ensures).before

pub returns-clause-found : goal.returns-clause-found
returns-clause-found c = (three_tests c.args.list.now c.args.low c.args.part c.args.to c.requires.rising c.requires.some c.requires.within _ _ _ c.from.ensures c.from-2.ensures c.from-3.ensures).found
