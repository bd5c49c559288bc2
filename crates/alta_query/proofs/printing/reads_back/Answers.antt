use Rattle.alta_query.proofs.Fine.{reads_again}
use Rattle.alta_query.proofs.printing.reads_back.Goals as goal

pub returns : goal.returns
returns c = reads_again
