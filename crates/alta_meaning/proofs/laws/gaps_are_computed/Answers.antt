use Rattle.alta_root.proofs.GapFunctions.{first_some, first_none, first_is, greatest_is, one_longest}
use Rattle.alta_meaning.proofs.laws.gaps_are_computed.Goals as goal

pub returns : goal.returns
returns c = record { some = first_some; none = first_none; first = first_is; longest = greatest_is; one = one_longest }
