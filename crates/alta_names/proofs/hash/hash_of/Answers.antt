use Rattle.std.proofs.Common.{rules}
use Rattle.alta_names.specs.Names.{name_hash}
use Rattle.alta_names.proofs.hash.hash_of.Goals as goal

pub returns : goal.returns
unfolding name_hash
returns c = search rules
