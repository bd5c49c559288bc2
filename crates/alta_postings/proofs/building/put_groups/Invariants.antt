use Rattle.alta_postings.specs.Table.{HasGroupFields}
use Rattle.alta_postings.proofs.building.put_groups.Given as goal

abbrev pub invariant-loop-group : goal.invariant-loop-group
invariant-loop-group l = HasGroupFields l.out.items l.rows l.group
