use Rattle.std.proofs.Common.{◌≡◌, ℕ, ◌+◌, ◌-◌, ◌^◌, ◌<◌, arith, sym, subst}
use Rattle.std.proofs.Math.Pow.{shr_lt}
use Rattle.alta_machine.proofs.terms.term.Goals as goal

pub range_term-requires-clause-prefix : goal.range_term-requires-clause-prefix
range_term-requires-clause-prefix c =
    let whole : (32 - c.args.level) + c.args.level ≡ 32 = omega arith in
    let small : c.from.result < 2 ^ 32 = omega arith in
    shr_lt (32 - c.args.level) c.args.level (subst (λ (k : ℕ). c.from.result < 2 ^ k) (sym whole) small)
