use Rattle.std.proofs.Common.{◌≡◌, sym, ◌∙◌, arith}
use Rattle.std.specs.Prelude.{Some, None}
use Rattle.alta_postings.specs.Deltas.{cause_of, fault_at}
use Rattle.alta_postings.proofs.Reading.{sound_at, step_at, shows_code}
use Rattle.alta_postings.proofs.step.slow_next.Goals as goal

pub overflow_add-result : goal.overflow_add-result
overflow_add-result c =
    let s = sound_at c.args.bytes.now c.args.at c.args.before c.in-Ok.difference c.in-Ok.next (λ i l. omega (arith, c.type_inv.bytes i)) c.requires.within (sym c.in-Ok.ensures) c.requires.spelled in
    omega (arith, s.low)

pub returns-in-Ok : goal.returns-in-Ok
returns-in-Ok c =
    let s = sound_at c.args.bytes.now c.args.at c.args.before c.in-Ok.difference c.in-Ok.next (λ i l. omega (arith, c.type_inv.bytes i)) c.requires.within (sym c.in-Ok.ensures) c.requires.spelled in
    step_at c.args.bytes.now c.args.at c.args.before c.in-Ok.difference c.in-Ok.next (λ i l. omega (arith, c.type_inv.bytes i)) c.requires.within (sym c.in-Ok.ensures) s.positive s.low

pub returns-in-Err : goal.returns-in-Err
returns-in-Err c =
    let w : Some (fault_at c.args.at (cause_of c.in-Err._fault)) ≡ None = sym (shows_code c.args.bytes.now c.args.at c.args.before c.in-Err._fault c.requires.within (sym c.in-Err.ensures)) ∙ c.requires.spelled in
    absurd cc
