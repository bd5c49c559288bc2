use Rattle.alta_query.proofs.TextTokens.{read_text}
use Rattle.alta_query.proofs.reading.a_query_asks_for_text.Goals as goal

pub returns : goal.returns
returns c = λ q (text, utf8, reads). read_text text q utf8 reads
