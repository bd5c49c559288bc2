use Rattle.alta_journal.proofs.FoundLaws.{name_utf8}
use Rattle.alta_journal.proofs.fields.name_text.Goals as goal

pub returns-in-Err : goal.returns-in-Err
returns-in-Err c = λ is_name. c.in-Err.ensures.cases.0 (name_utf8 c.args.bytes.now is_name)
