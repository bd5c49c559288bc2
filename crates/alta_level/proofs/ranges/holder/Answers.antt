use Rattle.std.proofs.Common.{ℕ, ◌<◌, ◌≤◌, List, length, get_or, ap, subst, arith}
use Rattle.alta_level.proofs.Apart.{between}
use Rattle.alta_level.proofs.ranges.holder.Goals as goal

pub returns-then-location-run_first-clause-held : goal.returns-then-location-run_first-clause-held
returns-then-location-run_first-clause-held c =
    let runs = c.args.runs.now in
    let run = c.end_from-run.result in
    let long = ap length c.deref.ensures.value in
    between runs.firsts.items runs.ends.items run c.args.location c.requires.rise (omega (arith, long))
    (subst (λ (ends : List ℕ). (i : ℕ) → i < run → get_or ends i 0 < c.args.location) c.deref.ensures.value c.end_from-run.ensures.before) (omega (arith, c.if-location-run_first.true, c.run_first.ensures))
    (subst (λ (ends : List ℕ). c.args.location ≤ get_or ends run 0) c.deref.ensures.value (c.end_from-run.ensures.found (omega (arith, long))))
