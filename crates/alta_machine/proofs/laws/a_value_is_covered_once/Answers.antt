use Rattle.alta_machine.proofs.Once.{is_cover}
use Rattle.alta_machine.proofs.laws.a_value_is_covered_once.Goals as goal

pub returns : goal.returns
returns c first last ranges small covers = is_cover first last ranges small covers
