use Rattle.alta_rewrite.proofs.SpaceLaws.{opened_spaced}
use Rattle.alta_rewrite.proofs.laws.what_is_opened_is_spaced.Goals as goal

pub returns : goal.returns
returns c = opened_spaced
