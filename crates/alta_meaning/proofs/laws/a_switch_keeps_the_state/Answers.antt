use Rattle.alta_meaning.proofs.KeptStates.{switch_keeps}
use Rattle.alta_meaning.proofs.laws.a_switch_keeps_the_state.Goals as goal

pub returns : goal.returns
returns c = switch_keeps
