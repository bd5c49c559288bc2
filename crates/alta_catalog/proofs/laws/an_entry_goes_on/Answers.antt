use Rattle.alta_catalog.proofs.KnownLaws.{before_entry, entered, none_yet}
use Rattle.alta_catalog.proofs.laws.an_entry_goes_on.Goals as goal

pub returns-clause-entered : goal.returns-clause-entered
returns-clause-entered c = entered

pub returns-clause-before : goal.returns-clause-before
returns-clause-before c = before_entry

pub returns-clause-none : goal.returns-clause-none
returns-clause-none c = none_yet
