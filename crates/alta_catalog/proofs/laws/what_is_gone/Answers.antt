use Rattle.alta_catalog.proofs.GoneLaws.{among_is, ends_before, gone_is, newest_behind}
use Rattle.alta_catalog.proofs.laws.what_is_gone.Goals as goal

pub returns-clause-gone : goal.returns-clause-gone
returns-clause-gone c = gone_is

pub returns-clause-among : goal.returns-clause-among
returns-clause-among c = among_is

pub returns-clause-below : goal.returns-clause-below
returns-clause-below c = ends_before

pub returns-clause-behind : goal.returns-clause-behind
returns-clause-behind c = newest_behind
