use Rattle.alta_compile.proofs.Parts.{common-all}
use Rattle.alta_compile.proofs.laws.all_parts.Goals as goal

pub returns : goal.returns
returns c = λ list lists e. common-all list lists e
