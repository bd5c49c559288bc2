use Rattle.alta_query.specs.View.{shape}
use Rattle.alta_model.proofs.Decided.{answer_decided}
use Rattle.alta_model.proofs.matching.matches.Goals as goal

pub returns-clause-decided : goal.returns-clause-decided
returns-clause-decided c =
    answer_decided c.args.document.now.cells (shape c.args.query.now) c.cells_match.result (rw c.as_slice.ensures at c.cells_match.ensures)
