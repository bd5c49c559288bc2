use Rattle.std.proofs.Common.{◌≡◌, ◌≤◌, length, arith, ◌∙◌}
use Rattle.alta_query.proofs.Cuts.{undotted_boundary}
use Rattle.alta_query.proofs.scan.undotted_run.Goals as goal

pub range-requires-clause-end_boundary : goal.range-requires-clause-end_boundary
range-requires-clause-end_boundary c =
    undotted_boundary c.args.rest.now c.undotted_end-len.result (rw c.as_bytes.ensures.value at c.undotted_end-len.ensures.len) (rw c.as_bytes.ensures.value at c.undotted_end-len.ensures.within)

pub returns-clause-boundary : goal.returns-clause-boundary
returns-clause-boundary c =
    let e : length c.range.result.now ≡ c.undotted_end-len.result = omega (arith, c.range.ensures.len) in
    let within : c.undotted_end-len.result ≤ length c.args.rest.now = rw c.as_bytes.ensures.value at c.undotted_end-len.ensures.within in
    undotted_boundary c.args.rest.now (length c.range.result.now) (e ∙ rw c.as_bytes.ensures.value at c.undotted_end-len.ensures.len) (omega (arith, e))
