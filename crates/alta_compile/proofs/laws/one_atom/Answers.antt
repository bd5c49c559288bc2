use Rattle.alta_compile.proofs.Meaning.{atom_law}
use Rattle.alta_compile.proofs.Spaces.{has_contains}
use Rattle.alta_compile.proofs.laws.one_atom.Goals as goal

pub returns : goal.returns
returns c = λ space d a s m. atom_law space s d (has_contains space d m) a
