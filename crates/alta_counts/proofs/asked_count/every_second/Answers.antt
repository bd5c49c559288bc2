use Rattle.std.proofs.Common.{◌+◌, ◌*◌, ◌∷◌, [], ◌++◌, get_or, take, take_all, sym, ap, ◌∙◌, arith}
use Rattle.std.proofs.lemmas.List.{take_more}
use Rattle.alta_counts.specs.Either.{seconds}
use Rattle.alta_counts.proofs.Either.{second_at, seconds_short}
use Rattle.alta_counts.proofs.asked_count.every_second.Goals as goal

pub returns : goal.returns
returns c =
    let xs = c.args.uses.now in
    c.loop-index.invariant ∙ take_all c.loop-index.index (seconds xs) (omega (arith, seconds_short xs, c.loop-index-test.false))

pub loop-index-preserved : goal.loop-index-preserved
loop-index-preserved c =
    let xs = c.args.uses.now in let i = c.loop-index.index in
    let (e, l) = second_at xs i (omega (arith, c.loop-index-test.true)) in
    c.in_ok-push.ensures.items ∙ ap (λ ys. ys ++ get_or xs (2 * i + 1) 0 ∷ []) c.loop-index.invariant
    ∙ ap (λ v. take i (seconds xs) ++ v ∷ []) (sym e) ∙ sym (take_more (seconds xs) i 0 l)
