use Rattle.std.proofs.Common.{inr, ◌+◌, ap, ◌∙◌, arith}
use Rattle.std.specs.Prelude.{Ok}
use Rattle.alta_codec.proofs.Numerals.{number_last}
use Rattle.alta_codec.proofs.number.get_number.Goals as goal

pub returns-then-bytes-from-lt128 : goal.returns-then-bytes-from-lt128
returns-then-bytes-from-lt128 c =
    ap (λ v. Ok (v, c.args.from + 1)) c.from.ensures
    ∙ number_last c.args.bytes.now c.args.from 9 c.if-from-bytes.true (omega arith) c.if-bytes-from-lt128.true (inr (omega arith))
