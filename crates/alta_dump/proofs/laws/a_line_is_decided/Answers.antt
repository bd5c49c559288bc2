use Rattle.alta_dump.proofs.Decided.{line_decided}
use Rattle.alta_dump.proofs.laws.a_line_is_decided.Goals as goal

pub returns : goal.returns
returns c = λ d line. line_decided d line
