use Rattle.alta_compile.proofs.Meaning.{not_law}
use Rattle.alta_compile.proofs.Spaces.{has_contains}
use Rattle.alta_compile.proofs.laws.not_the_part.Goals as goal

pub returns : goal.returns
returns c = λ space d t s m. not_law space s d (has_contains space d m) t
