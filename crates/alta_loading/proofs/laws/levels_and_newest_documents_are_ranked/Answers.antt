use Rattle.alta_loading.proofs.LevelAnswers.{levels_rank}
use Rattle.alta_loading.proofs.laws.levels_and_newest_documents_are_ranked.Goals as goal

pub returns : goal.returns
returns c = λ levels image gone documents newest tests q s h rise. levels_rank c.answers_match.ensures c.a_match_is_decided.ensures levels image gone documents newest tests q s h rise
