use Rattle.alta_rank.proofs.Documents.{range-cells}
use Rattle.alta_rank.proofs.laws.a_score_is_of_the_cells.Goals as goal

pub returns : goal.returns
returns c = range-cells
