use Rattle.alta_meaning.proofs.HeldLaws.{written_may_stand}
use Rattle.alta_meaning.proofs.laws.a_flush_may_stand.Goals as goal

pub returns : goal.returns
returns c = written_may_stand
