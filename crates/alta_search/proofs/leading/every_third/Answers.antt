use Rattle.std.proofs.Common.{◌+◌, ◌*◌, ◌∷◌, [], ◌++◌, get_or, take, take_all, sym, ap, ◌∙◌, arith}
use Rattle.std.proofs.lemmas.List.{take_more}
use Rattle.alta_search.specs.Leads.{thirds}
use Rattle.alta_search.proofs.Rarest.{third_at, thirds_short}
use Rattle.alta_search.proofs.leading.every_third.Goals as goal

pub returns : goal.returns
returns c =
    let xs = c.args.uses.now in
    c.loop-index.invariant ∙ take_all c.loop-index.index (thirds xs) (omega (arith, thirds_short xs, c.loop-index-test.false))

pub loop-index-preserved : goal.loop-index-preserved
loop-index-preserved c =
    let xs = c.args.uses.now in let i = c.loop-index.index in
    let (e, l) = third_at xs i (omega (arith, c.loop-index-test.true)) in
    c.in_ok-push.ensures.items ∙ ap (λ ys. ys ++ get_or xs (3 * i + 2) 0 ∷ []) c.loop-index.invariant
    ∙ ap (λ v. take i (thirds xs) ++ v ∷ []) (sym e) ∙ sym (take_more (thirds xs) i 0 l)
