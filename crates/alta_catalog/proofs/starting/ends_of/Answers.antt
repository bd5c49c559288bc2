use Rattle.std.proofs.Common.{◌∙◌, ap, refl}
use Rattle.alta_catalog.specs.Ends.{with_end}
use Rattle.alta_catalog.proofs.RisingLaws.{end_next}
use Rattle.alta_catalog.proofs.starting.ends_of.Goals as goal

pub loop-end-preserved : goal.loop-end-preserved
loop-end-preserved c =
    let i = c.loop-end.end-index in
    c.in_ok-delete.ensures.placed ∙ ap (with_end _) c.loop-end.invariant ∙ end_next c.args.ends.now i _ c.requires c.loop-end-test.true refl
