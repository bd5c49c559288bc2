use Rattle.std.proofs.Common.{refl}
use Rattle.alta_postings.proofs.Growing.{groups_more}
use Rattle.alta_postings.proofs.building.put_groups.Goals as goal

pub loop-group-preserved : goal.loop-group-preserved
loop-group-preserved c =
    groups_more c.loop-group.out.items c.put_field.new.out.items c.args.rows.now c.loop-group.group c.min-last.result _ _ c.loop-group.invariant c.requires.some c.min-last.ensures refl c.in_ok-put_field.ensures
