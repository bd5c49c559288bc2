use Rattle.std.proofs.Common.{arith}
use Rattle.alta_machine.proofs.Few.{all_few, few_at_start}
use Rattle.alta_machine.proofs.Once.{same_cover}
use Rattle.alta_machine.proofs.laws.a_cover_is_one.Goals as goal

pub returns : goal.returns
returns c first last ranges small covers = (omega (arith, all_few ranges first last 0 small covers (few_at_start first last small)), λ others same. same_cover ranges others first last covers same)
