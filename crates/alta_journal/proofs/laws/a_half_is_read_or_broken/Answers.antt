use Rattle.alta_journal.proofs.Total.{read_or_broken}
use Rattle.alta_journal.proofs.laws.a_half_is_read_or_broken.Goals as goal

pub returns : goal.returns
returns c = read_or_broken
