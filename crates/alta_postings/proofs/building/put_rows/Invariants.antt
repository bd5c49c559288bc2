use Rattle.alta_postings.specs.Table.{HasRowFields}
use Rattle.alta_postings.proofs.building.put_rows.Given as goal

abbrev pub invariant-loop-i : goal.invariant-loop-i
invariant-loop-i l = HasRowFields l.out.items l.rows l.i
