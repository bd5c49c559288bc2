use Rattle.alta_query.proofs.Cuts.{star_boundary}
use Rattle.alta_query.proofs.scan.starred.Goals as goal

pub returns-clause-boundary : goal.returns-clause-boundary
returns-clause-boundary c =
    star_boundary c.args.text.now c.ends_with.result (rw (c.as_bytes.ensures.value, c.as_slice.ensures) at c.ends_with.ensures.value)
