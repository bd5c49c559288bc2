use Rattle.alta_model.proofs.Readings.{asked, refused}
use Rattle.alta_model.proofs.laws.a_line_is_read_one_way.Goals as goal

pub returns-clause-asked : goal.returns-clause-asked
returns-clause-asked c = asked

pub returns-clause-refused : goal.returns-clause-refused
returns-clause-refused c = refused
