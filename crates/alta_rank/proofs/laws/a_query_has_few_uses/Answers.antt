use Rattle.alta_machine.specs.Spots.{spots}
use Rattle.alta_machine.specs.Token.{tokens_of}
use Rattle.alta_rank.proofs.FewUses.{read_few}
use Rattle.alta_rank.proofs.laws.a_query_has_few_uses.Goals as goal

pub returns : goal.returns
returns c = λ q (text, utf8, reads). read_few (tokens_of (spots text)) q reads
