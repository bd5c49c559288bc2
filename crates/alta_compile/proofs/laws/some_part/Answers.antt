use Rattle.alta_compile.proofs.Parts.{union-any}
use Rattle.alta_compile.proofs.laws.some_part.Goals as goal

pub returns : goal.returns
returns c = λ lists e. union-any lists e
