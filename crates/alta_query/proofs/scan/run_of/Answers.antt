use Rattle.std.proofs.Common.{◌≡◌, ◌≤◌, length, arith, ◌∙◌}
use Rattle.alta_query.proofs.Cuts.{run_boundary}
use Rattle.alta_query.proofs.scan.run_of.Goals as goal

pub range-requires-clause-end_boundary : goal.range-requires-clause-end_boundary
range-requires-clause-end_boundary c =
    run_boundary c.args.rest.now c.run_end-len.result (rw c.as_bytes.ensures.value at c.run_end-len.ensures.len) (rw c.as_bytes.ensures.value at c.run_end-len.ensures.within)

pub returns-clause-boundary : goal.returns-clause-boundary
returns-clause-boundary c =
    let e : length c.range.result.now ≡ c.run_end-len.result = omega (arith, c.range.ensures.len) in
    let within : c.run_end-len.result ≤ length c.args.rest.now = rw c.as_bytes.ensures.value at c.run_end-len.ensures.within in
    run_boundary c.args.rest.now (length c.range.result.now) (e ∙ rw c.as_bytes.ensures.value at c.run_end-len.ensures.len) (omega (arith, e))
