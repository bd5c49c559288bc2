use Rattle.alta_compile.proofs.Meaning.{plan_matches}
use Rattle.alta_compile.proofs.Spaces.{has_contains}
use Rattle.alta_compile.proofs.laws.finds_what_matches.Goals as goal

pub returns : goal.returns
returns c = λ space d q s m. plan_matches space s d (has_contains space d m) q
