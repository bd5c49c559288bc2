use Rattle.alta_loading.proofs.LevelDocuments.{levels_shown}
use Rattle.alta_loading.proofs.laws.levels_and_newest_documents_are_shown.Goals as goal

pub returns : goal.returns
returns c = λ levels image gone documents newest tests s h rise. levels_shown levels image gone documents newest tests s h rise
