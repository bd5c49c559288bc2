use Rattle.std.proofs.Common.{length}
use Rattle.alta_machine.specs.Spots.{spots}
use Rattle.alta_query.proofs.Exact.{decided}
use Rattle.alta_query.proofs.reading.one_or_other.Goals as goal

pub returns : goal.returns
returns c = λ text. decided (spots text) (length text)
