use Rattle.std.proofs.Common.{◌-◌, length}
use Rattle.alta_level.proofs.DecodedTo.{IsDecodedTo}
use Rattle.alta_level.proofs.decoding.decode.Given as goal

abbrev pub invariant-numbers : goal.invariant-numbers
invariant-numbers l = IsDecodedTo l.stream l.locations.items l.places.items l.at l.last

abbrev pub decreases-numbers : goal.decreases-numbers
decreases-numbers l = length l.stream - l.at
