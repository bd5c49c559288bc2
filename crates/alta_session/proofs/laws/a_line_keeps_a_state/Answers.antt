use Rattle.alta_session.proofs.StateLaws.{step_state}
use Rattle.alta_session.proofs.laws.a_line_keeps_a_state.Goals as goal

pub returns : goal.returns
returns c = step_state
