use Rattle.std.proofs.Common.{◌≡◌, ◌≢◌, ℕ, ◌<◌, ◌≤◌, List, [], map, length, get_or, set, refl, ap, ◌∙◌, arith}
use Rattle.std.specs.List.{concat}
use Rattle.std.proofs.lemmas.List.{length-map, length-set, get_or-set_same, get_or-set_other}
use Rattle.alta_codec.specs.declared.location.TheConstants.{TOP}
use Rattle.alta_codec.specs.Rising.{first_from, count_from}
use Rattle.alta_words.specs.Chain.{IsChain, chain_place, chain_ends, chain_goes, stays}
use Rattle.alta_words.proofs.Chained.{chain_falls}
use Rattle.alta_words.specs.Leaf.{leaf_list, leaf_place}
use Rattle.alta_words.proofs.chain.go_far.Given.{Over}
use Rattle.alta_words.proofs.chain.go_far.Goals as goal
use Rattle.alta_words.proofs.chain.go_far.Goals.{After-leaf_from-next}

-- what is left from the first place at or above `to` is less
fell : (g : Over) (c : After-leaf_from-next g) (y : ℕ) → y ≡ first_from (concat (map leaf_list c.args.leaves.now)) c.args.to
    → count_from (concat (map leaf_list c.args.leaves.now)) y < count_from (concat (map leaf_list c.args.leaves.now)) (get_or (map leaf_place c.args.leaves.now) c.args.at TOP)
fell g c y e =
    let ls = map leaf_list c.args.leaves.now in let hs = map leaf_place c.args.leaves.now in
    chain_falls ls ls (get_or hs c.args.at TOP) y c.args.to (chain_place ls hs c.args.at c.requires.chain) (λ z. (λ m. m, λ m. m)) c.requires.above c.requires.top e

-- past the last list
ends : (g : Over) (c : After-leaf_from-next g) → length c.args.leaves.now ≤ c.leaf_from-next.result
    → IsChain (map leaf_list c.args.leaves.now) (map leaf_place c.args.leaves.now) c.leaf_from-next.result
    × (get_or (map leaf_place c.args.leaves.now) c.leaf_from-next.result TOP ≡ first_from (concat (map leaf_list c.args.leaves.now)) c.args.to)
ends g c past =
    chain_ends (map leaf_list c.args.leaves.now) (map leaf_place c.args.leaves.now) c.args.at c.args.to c.leaf_from-next.result c.requires.chain c.requires.above c.requires.top
    c.leaf_from-next.ensures.after c.leaf_from-next.ensures.skipped (omega (arith, length-map c.args.leaves.now leaf_list, past))
    (omega (arith, length-map c.args.leaves.now leaf_list, c.leaf_from-next.ensures.within))

-- at the list that reaches the place
goes : (g : Over) (c : After-leaf_from-next g) (new : List ℕ) → c.leaf_from-next.result < length c.args.leaves.now → length new ≡ length (map leaf_place c.args.leaves.now)
    → get_or new c.leaf_from-next.result 0 ≡ first_from (get_or (map leaf_list c.args.leaves.now) c.leaf_from-next.result []) c.args.to
    → ((k : ℕ) → k ≢ c.leaf_from-next.result → get_or new k 0 ≡ get_or (map leaf_place c.args.leaves.now) k 0)
    → IsChain (map leaf_list c.args.leaves.now) new c.leaf_from-next.result
    × (get_or new c.leaf_from-next.result TOP ≡ first_from (concat (map leaf_list c.args.leaves.now)) c.args.to)
goes g c new w size moved others =
    chain_goes (map leaf_list c.args.leaves.now) (map leaf_place c.args.leaves.now) c.args.at c.args.to c.leaf_from-next.result c.requires.chain c.requires.above c.requires.top
    c.leaf_from-next.ensures.after c.leaf_from-next.ensures.skipped new (omega (arith, length-map c.args.leaves.now leaf_list, w))
    (c.leaf_from-next.ensures.found w) size moved others

-- a leaf that is there already
there : (g : Over) (c : After-leaf_from-next g) → c.leaf_from-next.result < length c.args.leaves.now
    → c.args.to ≤ get_or (map leaf_place c.args.leaves.now) c.leaf_from-next.result 0
    → IsChain (map leaf_list c.args.leaves.now) (map leaf_place c.args.leaves.now) c.leaf_from-next.result
    × (get_or (map leaf_place c.args.leaves.now) c.leaf_from-next.result TOP ≡ first_from (concat (map leaf_list c.args.leaves.now)) c.args.to)
there g c w le =
    let ls = map leaf_list c.args.leaves.now in let hs = map leaf_place c.args.leaves.now in
    goes g c hs w refl
    (stays ls hs c.args.at c.args.to c.leaf_from-next.result c.requires.chain c.requires.above c.requires.top
    c.leaf_from-next.ensures.after c.leaf_from-next.ensures.skipped (omega (arith, length-map c.args.leaves.now leaf_list, w)) le)
    (λ k n. refl)

-- a leaf that was moved
moved : (g : Over) (c : After-leaf_from-next g) (new : List ℕ) → c.leaf_from-next.result < length c.args.leaves.now
    → new ≡ set (map leaf_place c.args.leaves.now) c.leaf_from-next.result (first_from (get_or (map leaf_list c.args.leaves.now) c.leaf_from-next.result []) c.args.to)
    → IsChain (map leaf_list c.args.leaves.now) new c.leaf_from-next.result
    × (get_or new c.leaf_from-next.result TOP ≡ first_from (concat (map leaf_list c.args.leaves.now)) c.args.to)
moved g c new w e =
    let hs = map leaf_place c.args.leaves.now in let next = c.leaf_from-next.result in
    let y = first_from (get_or (map leaf_list c.args.leaves.now) next []) c.args.to in
    goes g c new w (ap length e ∙ length-set hs next y)
    (ap (λ xs. get_or xs next 0) e ∙ get_or-set_same hs next y 0 (omega (arith, length-map c.args.leaves.now leaf_place, w)))
    (λ k n. ap (λ xs. get_or xs k 0) e ∙ get_or-set_other hs next k y 0 n)

pub returns-then-next-leaves : goal.returns-then-next-leaves
returns-then-next-leaves g c =
    let after = (goal.at.returns-then-next-leaves g c).After-leaf_from-next in
    let went = ends g after (omega arith) in
    record {
      sound = c.requires.sound;
      lists = refl;
      chain = went.0;
      place = went.1;
      falls = fell g after _ went.1;
      moved = record { sized = refl; which = 0; others = λ k d n. refl };
      one = omega arith;
    }

pub returns-then-here-to : goal.returns-then-here-to
returns-then-here-to g c =
    let after = (goal.at.returns-then-here-to g c).After-leaf_from-next in
    let went = there g after (omega arith) (omega (arith, c.place_at-here.ensures.value)) in
    record {
      sound = c.requires.sound;
      lists = refl;
      chain = went.0;
      place = went.1;
      falls = fell g after _ went.1;
      moved = record { sized = refl; which = 0; others = λ k d n. refl };
      one = omega arith;
    }

pub returns : goal.returns
returns g c =
    let after = (goal.at.returns g c).After-leaf_from-next in
    let went = moved g after _ (omega arith) c.seek_leaf.ensures.places in
    record {
      sound = c.seek_leaf.ensures.sound;
      lists = c.seek_leaf.ensures.lists;
      chain = went.0;
      place = went.1;
      falls = fell g after _ went.1;
      moved = c.seek_leaf.ensures.moved;
      one = omega (arith, c.seek_leaf.ensures.one);
    }
