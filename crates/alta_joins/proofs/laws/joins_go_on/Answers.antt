use Rattle.alta_joins.proofs.JoiningLaws.{joining_job, joining_join, joining_more, joining_moved, joining_part, joining_rows, joining_stays}
use Rattle.alta_joins.proofs.laws.joins_go_on.Goals as goal

pub returns-clause-part : goal.returns-clause-part
returns-clause-part c = λ levels gone merging joining. joining_part levels gone merging joining

pub returns-clause-rows : goal.returns-clause-rows
returns-clause-rows c = λ levels gone merging joining. joining_rows levels gone merging joining

pub returns-clause-held : goal.returns-clause-held
returns-clause-held c = λ held image levels gone merging are is same gone_is joining joined. joining_job levels gone merging joining held image are is same gone_is joined

pub returns-clause-join : goal.returns-clause-join
returns-clause-join c = λ view levels gone merging joining oldest gone_is. joining_join levels gone merging joining view oldest gone_is

pub returns-clause-more : goal.returns-clause-more
returns-clause-more c = λ levels others gone ends merging joining same goes. joining_more levels gone merging joining others ends same goes

pub returns-clause-stays : goal.returns-clause-stays
returns-clause-stays c = λ old new levels gone merging joining older newer are. joining_stays levels gone merging joining old new older newer are

pub returns-clause-moved : goal.returns-clause-moved
returns-clause-moved c = λ levels gone merging later n joining is left. joining_moved levels gone merging joining later n is left
