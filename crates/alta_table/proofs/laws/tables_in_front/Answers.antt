use Rattle.alta_table.proofs.FrontLaws.{whole_has_parts, head_read, head_same, tables_same}
use Rattle.alta_table.proofs.laws.tables_in_front.Goals as goal

pub returns-clause-parts : goal.returns-clause-parts
returns-clause-parts c = λ bytes place total fits long. whole_has_parts bytes place total fits long

pub returns-clause-head : goal.returns-clause-head
returns-clause-head c = λ bytes behind place total documents terms fits below keeps spelled. head_read bytes behind place total documents terms fits below keeps spelled

pub returns-clause-same_head : goal.returns-clause-same_head
returns-clause-same_head c = λ bytes place total n le. head_same bytes place total n le

pub returns-clause-same : goal.returns-clause-same
returns-clause-same c = λ bytes place total n h read le. tables_same bytes place total n h read le
