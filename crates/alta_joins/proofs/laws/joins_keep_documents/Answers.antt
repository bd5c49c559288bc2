use Rattle.alta_joins.proofs.KeptLaws.{joins_keep, live_may_join, live_same}
use Rattle.alta_content.proofs.Kept.{join_may_join}
use Rattle.alta_content.proofs.Folds.{join_of_join}
use Rattle.alta_joins.proofs.laws.joins_keep_documents.Goals as goal

pub returns-clause-keep : goal.returns-clause-keep
returns-clause-keep c = λ contents may. joins_keep contents may

pub returns-clause-beside : goal.returns-clause-beside
returns-clause-beside c = λ before middle after dead may. join_may_join before middle after dead may

pub returns-clause-folds : goal.returns-clause-folds
returns-clause-folds c = λ before middle after dead may. join_of_join before middle after dead may

pub returns-clause-live : goal.returns-clause-live
returns-clause-live c = λ contents added gone space may. (live_may_join contents added gone space may, live_same contents added gone space may)
