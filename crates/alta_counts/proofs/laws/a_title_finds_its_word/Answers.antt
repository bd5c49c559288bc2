use Rattle.alta_counts.proofs.Titled.{title_finds}
use Rattle.alta_counts.proofs.laws.a_title_finds_its_word.Goals as goal

pub returns : goal.returns
returns c = title_finds
