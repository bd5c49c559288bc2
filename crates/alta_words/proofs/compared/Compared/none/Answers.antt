use Rattle.alta_words.proofs.Walk.{walk_start}
use Rattle.alta_words.proofs.compared.Compared.none.Goals as goal

pub returns-clause-read : goal.returns-clause-read
returns-clause-read c = λ stream summary b. walk_start stream summary b
