use Rattle.alta_session.proofs.ServeLaws.{opened_speaks, stands_speaks}
use Rattle.alta_session.proofs.laws.what_is_opened_may_speak.Goals as goal

pub returns-clause-opened : goal.returns-clause-opened
returns-clause-opened c = opened_speaks

pub returns-clause-stands : goal.returns-clause-stands
returns-clause-stands c = stands_speaks
