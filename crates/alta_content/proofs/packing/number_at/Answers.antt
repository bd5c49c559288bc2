use Rattle.std.proofs.Common.{◌∙◌, sym, arith}
use Rattle.alta_content.proofs.Packs.{read_within}
use Rattle.alta_content.proofs.packing.number_at.Goals as goal

pub overflow_add-result : goal.overflow_add-result
overflow_add-result c =
    let w = read_within c.args.bytes.now c.args.at c.in-Ok.number c.in-Ok.len (λ i. omega (arith, c.type_inv.bytes i)) c.requires (sym c.get_number.ensures ∙ c.in-Ok.is) in
    omega (arith, w)

pub returns-in-Ok-clause-within : goal.returns-in-Ok-clause-within
returns-in-Ok-clause-within c =
    read_within c.args.bytes.now c.args.at c.in-Ok.number c.in-Ok.len (λ i. omega (arith, c.type_inv.bytes i)) c.requires (sym c.get_number.ensures ∙ c.in-Ok.is)
