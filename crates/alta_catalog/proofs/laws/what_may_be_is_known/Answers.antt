use Rattle.alta_catalog.proofs.KnownLaws.{behind_known, refused_is, start_known}
use Rattle.alta_catalog.proofs.laws.what_may_be_is_known.Goals as goal

pub returns-clause-start : goal.returns-clause-start
returns-clause-start c = start_known

pub returns-clause-behind : goal.returns-clause-behind
returns-clause-behind c = behind_known

pub returns-clause-refused : goal.returns-clause-refused
returns-clause-refused c = refused_is
