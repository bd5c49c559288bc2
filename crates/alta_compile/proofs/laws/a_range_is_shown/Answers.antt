use Rattle.alta_compile.proofs.Texts.{range_shown}
use Rattle.alta_compile.proofs.laws.a_range_is_shown.Goals as goal

pub returns : goal.returns
returns c = range_shown
