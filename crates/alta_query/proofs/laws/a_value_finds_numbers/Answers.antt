use Rattle.alta_query.proofs.ValueLaws.{finds_numbers}
use Rattle.alta_query.proofs.laws.a_value_finds_numbers.Goals as goal

pub returns : goal.returns
returns c = finds_numbers
