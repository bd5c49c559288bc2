use Rattle.std.proofs.Common.{List, sym, subst}
use Rattle.std.specs.List.{All}
use Rattle.alta_content.specs.declared.document.DocRow.{DocRow}
use Rattle.alta_memlevel.specs.Documents.{IsBefore}
use Rattle.alta_memlevel.proofs.Behind.{may_join_behind}
use Rattle.alta_joins.proofs.SpaceLaws.{content_rows, contents_join}
use Rattle.alta_joins.proofs.laws.read_contents_may_join.Goals as goal

pub returns-clause-levels : goal.returns-clause-levels
returns-clause-levels c = λ levels contents are rows. contents_join levels contents are rows

pub returns-clause-rows : goal.returns-clause-rows
returns-clause-rows c = λ levels contents are. content_rows levels contents are

pub returns-clause-beside : goal.returns-clause-beside
returns-clause-beside c = λ levels contents number location added content are rows n l before from has.
    may_join_behind number location contents added content n l (contents_join levels contents are rows)
    (subst (λ (rs : List DocRow). All (IsBefore number location) rs) (sym (content_rows levels contents are)) before) from has
