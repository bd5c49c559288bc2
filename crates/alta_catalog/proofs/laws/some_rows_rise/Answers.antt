use Rattle.alta_catalog.proofs.LevelLaws.{kept_rise}
use Rattle.alta_catalog.proofs.laws.some_rows_rise.Goals as goal

pub returns : goal.returns
returns c = kept_rise
