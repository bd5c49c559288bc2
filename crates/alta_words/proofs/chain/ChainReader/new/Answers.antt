use Rattle.std.proofs.Common.{◌≡◌, map, get_or, sym, ◌∙◌, arith}
use Rattle.std.specs.List.{concat}
use Rattle.std.proofs.lemmas.List.{length-map}
use Rattle.std.proofs.lemmas.List.Elements.{Contains-get_or}
use Rattle.alta_codec.specs.declared.location.TheConstants.{TOP}
use Rattle.alta_codec.specs.Rising.{first_from}
use Rattle.alta_codec.proofs.Places.{first_from-least, count_from-all}
use Rattle.alta_words.specs.Leaf.{leaf_list, leaf_place}
use Rattle.alta_words.specs.Chain.{IsChain}
use Rattle.alta_words.proofs.Chained.{chain_starts, both_at}
use Rattle.alta_words.proofs.chain.ChainReader.new.Goals as goal
use Rattle.alta_words.proofs.chain.ChainReader.new.Goals.{After-leaf_from-at}

starts : (c : After-leaf_from-at)
    → IsChain (map leaf_list c.args.leaves.items) (map leaf_place c.args.leaves.items) c.leaf_from-at.result
    × (get_or (map leaf_place c.args.leaves.items) c.leaf_from-at.result TOP ≡ first_from (concat (map leaf_list c.args.leaves.items)) 0)
starts c =
    let f = leaf_list in let h = leaf_place in let rs = c.args.leaves.items in
    let e = rw c.deref.ensures.value at c.leaf_from-at.ensures in
    chain_starts (map f rs) (map h rs) c.leaf_from-at.result c.requires.in_order (length-map rs h ∙ sym (length-map rs f)) (omega (arith, length-map rs f, e.within))
    (λ k l. both_at f h (λ xs x. x ≡ first_from xs 0) rs k c.requires.unmoved (omega (arith, length-map rs f, l)))
    (λ k l. omega (arith, e.skipped k (omega arith) l)) (λ l. e.found (omega (arith, length-map rs f, l)))

pub returns-clause-sound : goal.returns-clause-sound
returns-clause-sound c = (c.requires.sound, (starts c).0)

pub returns-clause-unmoved : goal.returns-clause-unmoved
returns-clause-unmoved c = (starts c).1

pub returns-clause-left : goal.returns-clause-left
returns-clause-left c =
    let list = concat (map leaf_list c.args.leaves.items) in
    count_from-all list (get_or (map leaf_place c.args.leaves.items) c.leaf_from-at.result TOP)
    (λ i l. omega (arith, (starts c).1, first_from-least list 0 (get_or list i 0) (Contains-get_or list i 0 l) (omega arith)))
