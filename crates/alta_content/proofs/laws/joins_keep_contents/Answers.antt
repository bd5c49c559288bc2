use Rattle.alta_content.proofs.Documents.{cells_kept, states_kept}
use Rattle.alta_content.proofs.Folds.{join_of_join}
use Rattle.alta_content.proofs.Kept.{join_is_part, join_may_join}
use Rattle.alta_content.proofs.laws.joins_keep_contents.Goals as goal

pub returns-clause-part : goal.returns-clause-part
returns-clause-part c = λ contents dead h. join_is_part contents dead h

pub returns-clause-beside : goal.returns-clause-beside
returns-clause-beside c = λ before middle after dead h. join_may_join before middle after dead h

pub returns-clause-cells : goal.returns-clause-cells
returns-clause-cells c = λ contents dead h. cells_kept contents dead h

pub returns-clause-folds : goal.returns-clause-folds
returns-clause-folds c = λ before middle after dead h. join_of_join before middle after dead h

pub returns-clause-states : goal.returns-clause-states
returns-clause-states c = λ contents dead deleted h all. states_kept contents dead deleted h all
