use Rattle.alta_machine.specs.Spots.{spots}
use Rattle.alta_machine.specs.Token.{tokens_of}
use Rattle.alta_query.proofs.Members.{read_has}
use Rattle.alta_query.proofs.reading.a_query_has_members.Goals as goal

pub returns : goal.returns
returns c = λ q (text, utf8, reads). read_has (tokens_of (spots text)) q reads
