use Rattle.std.proofs.Common.{arith}
use Rattle.alta_postings.proofs.Reading.{sound_at, step_at}
use Rattle.alta_postings.proofs.Short.{short_sound}
use Rattle.alta_postings.proofs.step.next_location.Goals as goal

pub overflow_add-result : goal.overflow_add-result
overflow_add-result c =
    let h = short_sound c.args.bytes.now c.args.at c.args.before c.in-Some.difference c.in-Some.next (omega arith) c.in-Some.ensures c.requires.spelled in
    let s = sound_at c.args.bytes.now c.args.at c.args.before c.in-Some.difference c.in-Some.next (λ i l. omega (arith, c.type_inv.bytes i)) c.requires.within h c.requires.spelled in
    omega (arith, s.low)

pub returns-in-Some : goal.returns-in-Some
returns-in-Some c =
    let h = short_sound c.args.bytes.now c.args.at c.args.before c.in-Some.difference c.in-Some.next (omega arith) c.in-Some.ensures c.requires.spelled in
    let s = sound_at c.args.bytes.now c.args.at c.args.before c.in-Some.difference c.in-Some.next (λ i l. omega (arith, c.type_inv.bytes i)) c.requires.within h c.requires.spelled in
    step_at c.args.bytes.now c.args.at c.args.before c.in-Some.difference c.in-Some.next (λ i l. omega (arith, c.type_inv.bytes i)) c.requires.within h s.positive s.low
