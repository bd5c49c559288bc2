use Rattle.std.proofs.Common.{ap, ◌∙◌, sym, arith}
use Rattle.std.specs.Prelude.{Some}
use Rattle.alta_postings.specs.declared.fault.StreamCause.{StreamCause}
use Rattle.alta_postings.specs.Deltas.{fault_at}
use Rattle.alta_postings.proofs.Reading.{step_at, shows_zero, shows_top, shows_code}
use Rattle.alta_postings.proofs.step.slow_location.Goals as goal

pub returns-then-difference-eq0 : goal.returns-then-difference-eq0
returns-then-difference-eq0 c =
    record {
      read = tt;
      fault = shows_zero c.args.bytes.now c.args.at c.args.before c.in-Ok.difference c.in-Ok.next (λ i l. omega (arith, c.type_inv.bytes i)) c.requires.within (sym c.in-Ok.ensures) c.if-difference-eq0.true;
    }

pub returns-then-difference-before : goal.returns-then-difference-before
returns-then-difference-before c =
    record {
      read = tt;
      fault = shows_top c.args.bytes.now c.args.at c.args.before c.in-Ok.difference c.in-Ok.next (λ i l. omega (arith, c.type_inv.bytes i)) c.requires.within (sym c.in-Ok.ensures) (omega arith) (omega (arith, c.requires.low));
    }

pub returns-else-difference-before : goal.returns-else-difference-before
returns-else-difference-before c =
    record {
      read = step_at c.args.bytes.now c.args.at c.args.before c.in-Ok.difference c.in-Ok.next (λ i l. omega (arith, c.type_inv.bytes i)) c.requires.within (sym c.in-Ok.ensures) (omega arith) (omega (arith, c.requires.low));
      fault = tt;
    }

pub returns-in-Err : goal.returns-in-Err
returns-in-Err c =
    record {
      read = tt;
      fault = shows_code c.args.bytes.now c.args.at c.args.before c.in-Err.fault c.requires.within (sym c.in-Err.ensures)
          ∙ ap (λ (w : StreamCause). Some (fault_at c.args.at w)) (sym c.cause.ensures);
    }
