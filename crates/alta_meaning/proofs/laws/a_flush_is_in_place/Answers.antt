use Rattle.alta_meaning.proofs.PlaceLaws.{written_in_place}
use Rattle.alta_meaning.proofs.laws.a_flush_is_in_place.Goals as goal

pub returns : goal.returns
returns c = written_in_place
