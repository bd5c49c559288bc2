use Rattle.alta_machine.proofs.Made.{cover_made}
use Rattle.alta_machine.proofs.laws.a_cover_is_made.Goals as goal

pub returns : goal.returns
returns c = cover_made
