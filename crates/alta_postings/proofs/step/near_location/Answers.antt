use Rattle.std.proofs.Common.{arith}
use Rattle.alta_postings.proofs.Reading.{sound_at, step_at}
use Rattle.alta_postings.proofs.Short.{short_sound, one_sound}
use Rattle.alta_postings.proofs.step.near_location.Goals as goal

pub returns-then-are_low : goal.returns-then-are_low
returns-then-are_low c =
    one_sound c.args.bytes.now c.args.at c.args.before c.from.result (λ i l. omega (arith, c.type_inv.bytes i)) (omega arith) c.from.ensures (omega (arith, c.from.ensures, c.if-are_low.ensures)) c.requires.spelled

pub overflow_add-result-in-Some : goal.overflow_add-result-in-Some
overflow_add-result-in-Some c =
    let h = short_sound c.args.bytes.now c.args.at c.args.before c.in-Some.difference c.in-Some.next (omega arith) c.in-Some.ensures c.requires.spelled in
    let s = sound_at c.args.bytes.now c.args.at c.args.before c.in-Some.difference c.in-Some.next (λ i l. omega (arith, c.type_inv.bytes i)) (omega arith) h c.requires.spelled in
    omega (arith, s.low)

pub returns-in-Some : goal.returns-in-Some
returns-in-Some c =
    let h = short_sound c.args.bytes.now c.args.at c.args.before c.in-Some.difference c.in-Some.next (omega arith) c.in-Some.ensures c.requires.spelled in
    let s = sound_at c.args.bytes.now c.args.at c.args.before c.in-Some.difference c.in-Some.next (λ i l. omega (arith, c.type_inv.bytes i)) (omega arith) h c.requires.spelled in
    step_at c.args.bytes.now c.args.at c.args.before c.in-Some.difference c.in-Some.next (λ i l. omega (arith, c.type_inv.bytes i)) (omega arith) h s.positive s.low
