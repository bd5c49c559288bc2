use Rattle.alta_meaning.proofs.FormattedLaws.{formatted_held, formatted_opened, formatted_stands}
use Rattle.alta_meaning.proofs.laws.a_formatted_disk_is_empty.Goals as goal

pub returns-clause-stands : goal.returns-clause-stands
returns-clause-stands c = formatted_stands

pub returns-clause-opened : goal.returns-clause-opened
returns-clause-opened c = formatted_opened

pub returns-clause-held : goal.returns-clause-held
returns-clause-held c = formatted_held
