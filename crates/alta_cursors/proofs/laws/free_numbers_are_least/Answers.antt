use Rattle.alta_cursors.proofs.CursorNumbers.{least_is}
use Rattle.alta_cursors.proofs.laws.free_numbers_are_least.Goals as goal

pub returns : goal.returns
returns c = least_is
