use Rattle.alta_model.proofs.Decided.{match_is}
use Rattle.alta_model.proofs.laws.a_match_is_decided.Goals as goal

pub returns : goal.returns
returns c = match_is
