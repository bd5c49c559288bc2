use Rattle.std.proofs.Common.{◌++◌, ap, sym, ◌∙◌, arith}
use Rattle.alta_codec.specs.Numbers.{number_bytes}
use Rattle.alta_codec.proofs.Numerals.{spelling_last}
use Rattle.alta_codec.proofs.number.put_number.Goals as goal

pub returns-then-n-lt128 : goal.returns-then-n-lt128
unfolding number_bytes
returns-then-n-lt128 c = c.in_ok-push.ensures.items ∙ ap (λ t. c.args.out.now.items ++ t) (sym (spelling_last 10 c.args.n (omega arith) c.if-n-lt128.true))
