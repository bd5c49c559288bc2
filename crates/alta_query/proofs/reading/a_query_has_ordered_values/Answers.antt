use Rattle.alta_query.proofs.Fine.{read_values}
use Rattle.alta_query.proofs.reading.a_query_has_ordered_values.Goals as goal

pub returns : goal.returns
returns c = λ q (text, utf8, reads). read_values text q reads
