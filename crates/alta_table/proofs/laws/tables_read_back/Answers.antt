use Rattle.alta_table.proofs.TableParts.{tables_first, tables_broken}
use Rattle.alta_table.proofs.TableLaws.{tables_are, are_tables}
use Rattle.alta_table.proofs.laws.tables_read_back.Goals as goal

pub returns-clause-spelled : goal.returns-clause-spelled
returns-clause-spelled c = λ bytes place total tables fits parts e. tables_are bytes place total tables fits parts e

pub returns-clause-read : goal.returns-clause-read
returns-clause-read c = λ bytes place total tables fits below a. are_tables bytes place total tables fits below a

pub returns-clause-first : goal.returns-clause-first
returns-clause-first c = λ bytes place total p fits e. tables_first bytes place total p fits e

pub returns-clause-broken : goal.returns-clause-broken
returns-clause-broken c = λ bytes place total p fits damage. tables_broken bytes place total p fits damage
