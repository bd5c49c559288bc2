use Rattle.std.proofs.Common.{refl, ◌∙◌, arith}
use Rattle.alta_postings.specs.Deltas.{first_fault, decoded_list}
use Rattle.alta_postings.proofs.Reading.{no_list, spelling_reads, reading_spells, fault_end}
use Rattle.alta_postings.proofs.stream.Stream.open.Goals as goal

pub whole-init : goal.whole-init
unfolding first_fault
whole-init c = record { same = refl; low = omega arith; within = omega arith }

pub of-requires : goal.of-requires
of-requires c =
    let bs = c.args.bytes.now in
    (decoded_list bs, reading_spells bs (λ i l. omega (arith, c.type_inv.bytes i)) (c.whole.invariant.same ∙ fault_end bs c.whole.at c.whole.before (omega arith)))

pub returns-clause-found : goal.returns-clause-found
returns-clause-found c =
    let bs = c.args.bytes.now in
    (c.of.ensures, reading_spells bs (λ i l. omega (arith, c.type_inv.bytes i)) (c.whole.invariant.same ∙ fault_end bs c.whole.at c.whole.before (omega arith)))

pub returns-clause-never : goal.returns-clause-never
returns-clause-never c = λ xs s. (refl, (spelling_reads c.args.bytes.now xs s).1)

pub returns-in_err-span-clause-never : goal.returns-in_err-span-clause-never
returns-in_err-span-clause-never c =
    λ xs s. absurd (no_list c.args.bytes.now xs c.in_err-span.field-0.0 (c.whole.invariant.same ∙ c.in_err-span.ensures.fault) s)
