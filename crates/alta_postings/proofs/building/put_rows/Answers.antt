use Rattle.std.proofs.Common.{refl}
use Rattle.alta_postings.proofs.Growing.{rows_more}
use Rattle.alta_postings.proofs.building.put_rows.Goals as goal

pub loop-i-preserved : goal.loop-i-preserved
loop-i-preserved c =
    rows_more c.loop-i.out.items c.put_field.new.out.items c.put_field-in-loop-i.new.out.items c.put_field-in-loop-i-2.new.out.items c.args.rows.now c.loop-i.i _ _ c.loop-i.invariant c.loop-i-test.true refl
    c.in_ok-put_field.ensures c.in_ok-put_field-2.ensures c.in_ok-put_field-3.ensures
