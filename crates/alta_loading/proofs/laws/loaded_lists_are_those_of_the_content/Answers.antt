use Rattle.alta_loading.proofs.Contents.{content_loaded, levels_loaded}
use Rattle.alta_loading.proofs.laws.loaded_lists_are_those_of_the_content.Goals as goal

pub returns-clause-level : goal.returns-clause-level
returns-clause-level c = content_loaded

pub returns-clause-levels : goal.returns-clause-levels
returns-clause-levels c = levels_loaded
