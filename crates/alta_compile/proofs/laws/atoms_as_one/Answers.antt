use Rattle.alta_compile.proofs.Meaning.{atoms_law, each_named}
use Rattle.std.proofs.Common.{map}
use Rattle.alta_machine.specs.Patterns.{pattern_of}
use Rattle.alta_compile.proofs.Spaces.{has_contains}
use Rattle.alta_compile.proofs.laws.atoms_as_one.Goals as goal

pub returns : goal.returns
returns c = λ space d atoms s m. atoms_law space s d (has_contains space d m) (map pattern_of atoms) (each_named atoms)
