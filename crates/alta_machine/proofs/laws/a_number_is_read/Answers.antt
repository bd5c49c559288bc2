use Rattle.alta_machine.proofs.Numerals.{are_read}
use Rattle.alta_machine.proofs.laws.a_number_is_read.Goals as goal

pub returns : goal.returns
returns c = are_read
