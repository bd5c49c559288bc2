use Rattle.alta_dump.proofs.Readable.{line_asks}
use Rattle.alta_dump.proofs.laws.a_line_reads_as_an_add.Goals as goal

pub returns : goal.returns
returns c = line_asks
