use Rattle.alta_meaning.proofs.KeptStates.{written_keeps}
use Rattle.alta_meaning.proofs.laws.a_flush_keeps_the_state.Goals as goal

pub returns : goal.returns
returns c = written_keeps
