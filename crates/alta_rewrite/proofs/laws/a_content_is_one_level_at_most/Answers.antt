use Rattle.alta_rewrite.proofs.RootLaws.{at_most_one}
use Rattle.alta_rewrite.proofs.laws.a_content_is_one_level_at_most.Goals as goal

pub returns : goal.returns
returns c = at_most_one
