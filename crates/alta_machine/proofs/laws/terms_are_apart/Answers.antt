use Rattle.alta_machine.proofs.TermLaws.{are_apart}
use Rattle.alta_machine.proofs.laws.terms_are_apart.Goals as goal

pub returns : goal.returns
returns c = are_apart
