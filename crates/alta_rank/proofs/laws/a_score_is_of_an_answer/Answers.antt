use Rattle.alta_rank.proofs.AnyUse.{shape_law}
use Rattle.alta_rank.proofs.laws.a_score_is_of_an_answer.Goals as goal

pub returns : goal.returns
returns c = shape_law
