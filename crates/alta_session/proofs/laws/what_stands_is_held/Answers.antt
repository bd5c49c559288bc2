use Rattle.alta_session.proofs.ServeLaws.{held_of}
use Rattle.alta_session.proofs.laws.what_stands_is_held.Goals as goal

pub returns : goal.returns
returns c = held_of
