use Rattle.alta_counts.proofs.Either.{either_finds}
use Rattle.alta_counts.proofs.laws.an_or_finds_its_words.Goals as goal

pub returns : goal.returns
returns c = either_finds
