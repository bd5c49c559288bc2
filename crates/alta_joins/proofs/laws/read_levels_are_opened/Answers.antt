use Rattle.alta_joins.proofs.OpenedLaws.{found_stand, levels_segments, opened_stand, read_levels_are, with_contents}
use Rattle.alta_joins.proofs.laws.read_levels_are_opened.Goals as goal

pub returns-clause-found : goal.returns-clause-found
returns-clause-found c = λ slot root deleted levels image are has. found_stand slot root deleted levels image are has

pub returns-clause-stand : goal.returns-clause-stand
returns-clause-stand c = λ o image are opened. opened_stand o image are opened

pub returns-clause-levels : goal.returns-clause-levels
returns-clause-levels c = λ o contents image are opened kept segments. read_levels_are o contents image are opened kept segments

pub returns-clause-contents : goal.returns-clause-contents
returns-clause-contents c = λ levels contents are. with_contents levels contents are

pub returns-clause-segments : goal.returns-clause-segments
returns-clause-segments c = λ o levels image are opened is. levels_segments o levels image are opened is
