use Rattle.std.proofs.Common.{refl}
use Rattle.alta_machine.specs.Terms.{term_bytes}
use Rattle.alta_machine.proofs.terms.range_term.Goals as goal

pub returns : goal.returns
unfolding term_bytes
returns c = rw c.to_be_bytes.ensures refl
