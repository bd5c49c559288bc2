use Rattle.alta_search.proofs.Conjoined.{conjoined_list}
use Rattle.alta_search.proofs.laws.a_conjunction_finds_its_words.Goals as goal

pub returns : goal.returns
returns c = conjoined_list
