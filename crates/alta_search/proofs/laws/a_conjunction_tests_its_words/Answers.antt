use Rattle.alta_search.proofs.Conjoined.{conjoined}
use Rattle.alta_search.proofs.laws.a_conjunction_tests_its_words.Goals as goal

pub returns : goal.returns
returns c = conjoined
