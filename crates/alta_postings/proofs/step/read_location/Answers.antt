use Rattle.std.proofs.Common.{arith}
use Rattle.alta_postings.proofs.Short.{short_step}
use Rattle.alta_postings.proofs.step.read_location.Goals as goal

pub returns-then-difference-before : goal.returns-then-difference-before
returns-then-difference-before c =
    record {
      read = short_step c.args.bytes.now c.args.at c.args.before c.in-Some.difference c.in-Some.next (λ i l. omega (arith, c.type_inv.bytes i)) (omega arith) c.in-Some.ensures (omega arith) (omega (arith, c.requires.low));
      fault = tt;
    }
