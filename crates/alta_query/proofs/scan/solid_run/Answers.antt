use Rattle.std.proofs.Common.{◌≡◌, ◌≤◌, length, arith, ◌∙◌}
use Rattle.alta_query.proofs.Cuts.{solid_boundary}
use Rattle.alta_query.proofs.scan.solid_run.Goals as goal

pub range-requires-clause-end_boundary : goal.range-requires-clause-end_boundary
range-requires-clause-end_boundary c =
    solid_boundary c.args.rest.now c.solid_end-len.result (rw c.as_bytes.ensures.value at c.solid_end-len.ensures.len) (rw c.as_bytes.ensures.value at c.solid_end-len.ensures.within)

pub returns-clause-boundary : goal.returns-clause-boundary
returns-clause-boundary c =
    let e : length c.range.result.now ≡ c.solid_end-len.result = omega (arith, c.range.ensures.len) in
    let within : c.solid_end-len.result ≤ length c.args.rest.now = rw c.as_bytes.ensures.value at c.solid_end-len.ensures.within in
    solid_boundary c.args.rest.now (length c.range.result.now) (e ∙ rw c.as_bytes.ensures.value at c.solid_end-len.ensures.len) (omega (arith, e))
