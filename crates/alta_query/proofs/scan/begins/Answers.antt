use Rattle.alta_query.proofs.Cuts.{head_boundary}
use Rattle.alta_query.proofs.scan.begins.Goals as goal

pub returns-clause-boundary : goal.returns-clause-boundary
returns-clause-boundary c =
    head_boundary c.args.text.now c.args.head.now c.starts_with.result c.utf8.text c.utf8.head (rw (c.as_bytes.ensures.value, c.as_bytes-2.ensures.value) at c.starts_with.ensures.value)
