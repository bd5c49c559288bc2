use Rattle.std.proofs.Common.{◌≡◌, ◌<◌, false, refl, sym, ◌∙◌, arith}
use Rattle.std.specs.BinaryHeap.{heap_items, heap_len}
use Rattle.std.proofs.lemmas.List.Elements.{All-from_recursion}
use Rattle.alta_rank.proofs.Keeping.{popped, lt}
use Rattle.alta_rank.proofs.best.replace_last.Goals as goal

pub returns-clause-kept : goal.returns-clause-kept
returns-clause-kept c =
    let old = heap_items c.args.best.now in let last = c.in-Some.last.now in
    let some : 0 < heap_len c.args.best.now = c.in-Some.ensures.variant.0 refl in
    popped old (heap_items c.pop.new.self) (heap_items c.push.new.self) c.args.answer last c.pop.result (c.pop.ensures.variant.1 some)
    c.pop.ensures.permutation c.pop.ensures.top c.in-Some.ensures.lookup (omega (arith, some, c.args.best.now.data.ok.0))
    (sym c.lt.ensures ∙ c.if-lt.true) (All-from_recursion (λ b. lt last b ≡ false) old (c.in-Some.ensures.greatest c.requires))
    c.in_ok-push.ensures.permutation
