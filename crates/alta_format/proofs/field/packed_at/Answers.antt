use Rattle.std.proofs.Common.{rules, ◌≡◌, arith}
use Rattle.alta_codec.specs.Numbers.{number_from}
use Rattle.alta_codec.proofs.Numerals.{read_ok, number_read}
use Rattle.alta_format.proofs.field.packed_at.Goals as goal

pub split_at-requires : goal.split_at-requires
split_at-requires c =
    let got : number_from 9 0 c.args.bytes.now ≡ read_ok c.in-Ok.n c.in-Ok.next = search rules in
    omega (arith, (number_read 0 c.args.bytes.now c.in-Ok.n c.in-Ok.next (λ i within. omega (arith, c.type_inv.bytes i)) got).within)
