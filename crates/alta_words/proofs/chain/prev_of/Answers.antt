use Rattle.std.proofs.Common.{◌-◌, map, ◌∙◌, arith}
use Rattle.std.proofs.lemmas.List.{length-map}
use Rattle.alta_words.specs.Leaf.{leaf_list, leaf_place}
use Rattle.alta_words.specs.Chain.{prev_none, prev_before}
use Rattle.alta_words.proofs.Chained.{prev_here}
use Rattle.alta_words.proofs.chain.prev_of.Goals as goal

pub returns-then-near-gt0 : goal.returns-then-near-gt0
returns-then-near-gt0 c =
    let ls = map leaf_list c.args.leaves.now in let hs = map leaf_place c.args.leaves.now in
    c.prev_at-near.ensures.value
    ∙ prev_here ls hs c.args.at c.requires.chain (omega (arith, length-map c.args.leaves.now leaf_list)) (omega (arith, c.prev_at-near.ensures.value))

pub returns-then-last-gt0 : goal.returns-then-last-gt0
returns-then-last-gt0 c =
    let ls = map leaf_list c.args.leaves.now in let hs = map leaf_place c.args.leaves.now in
    c.last_at-last.ensures
    ∙ prev_before ls hs c.args.at c.back.k c.requires.chain (λ l. c.back.invariant.first (omega (arith, length-map c.args.leaves.now leaf_list, l)))
    c.back.invariant.empty (c.back.k - 1) (omega arith) c.back.invariant.low (omega (arith, c.last_at-last.ensures))

pub returns : goal.returns
returns c =
    let ls = map leaf_list c.args.leaves.now in let hs = map leaf_place c.args.leaves.now in
    prev_none ls hs c.args.at c.back.k c.requires.chain (λ l. c.back.invariant.first (omega (arith, length-map c.args.leaves.now leaf_list, l)))
    c.back.invariant.empty (omega arith)
