use Rattle.std.proofs.Common.{◌<◌, subst, arith}
use Rattle.alta_counts.proofs.Tallying.{passing_fits, passing_step}
use Rattle.alta_counts.proofs.tallies.pass.Goals as goal

pub overflow_add-passed : goal.overflow_add-passed
overflow_add-passed g c =
    omega (arith, passing_fits c.args.reader.now c.ends.reader c.args.to c.ends.passed c.args.steps.now c.ends.steps c.ends.invariant)

pub ends-preserved : goal.ends-preserved
ends-preserved g c =
    let e = c.next.ensures in
    passing_step c.args.reader.now c.ends.reader c.next.new.self c.args.to c.ends.passed c.args.steps.now c.ends.steps c.next.new.steps c.ends.invariant
    e.onward c.requires.top
    (subst (λ n. n < c.args.to) c.loc.ensures.location c.ends-test.true) e.location
