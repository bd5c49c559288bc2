use Rattle.alta_catalog.proofs.MayLaws.{means_may}
use Rattle.alta_catalog.proofs.laws.a_state_may_be.Goals as goal

pub returns-clause-stands : goal.returns-clause-stands
returns-clause-stands c = λ s image stands. means_may s stands.opened image stands.means

pub returns-clause-means : goal.returns-clause-means
returns-clause-means c = means_may
