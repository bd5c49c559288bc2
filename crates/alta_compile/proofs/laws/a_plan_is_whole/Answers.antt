use Rattle.alta_query.proofs.Fine.{read_values}
use Rattle.alta_compile.proofs.Whole.{read_whole}
use Rattle.alta_compile.proofs.laws.a_plan_is_whole.Goals as goal

pub returns : goal.returns
returns c = λ q (text, utf8, reads). read_whole _ q reads (read_values text q reads)
