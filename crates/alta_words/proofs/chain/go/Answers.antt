use Rattle.std.proofs.Common.{◌≡◌, ⊎_elim, ℕ, ◌<◌, ◌≤◌, List, [], map, length, get_or, set, ap, ◌∙◌, arith}
use Rattle.std.specs.List.{concat}
use Rattle.std.proofs.lemmas.Bool.{cases_lt}
use Rattle.std.proofs.lemmas.List.{length-set, get_or_past, get_or-set_same, get_or-set_other}
use Rattle.alta_codec.specs.declared.location.TheConstants.{TOP}
use Rattle.alta_codec.specs.Rising.{first_from, pred_of}
use Rattle.alta_words.specs.Chain.{IsChain, chain_place, chain_goes}
use Rattle.alta_words.proofs.Chained.{chain_falls}
use Rattle.alta_words.specs.Leaf.{leaf_list, leaf_place}
use Rattle.alta_words.proofs.chain.go.Given.{Over}
use Rattle.alta_words.proofs.chain.go.Goals as goal
use Rattle.alta_words.proofs.chain.go.Goals.{After-seek_leaf}

-- below a place up to TOP a list is being read
inside : (hs : List ℕ) (at to : ℕ) → get_or hs at TOP < to → to ≤ TOP → at < length hs
inside hs at to above top = ⊎_elim (λ l. l) (λ g. absurd (omega (arith, get_or_past hs at TOP g, above, top))) (cases_lt at (length hs))

-- the list that is being read reaches the place, and was moved there
moved : (ls : List (List ℕ)) (hs : List ℕ) (at to : ℕ) → IsChain ls hs at → get_or hs at TOP < to → to ≤ TOP → to ≤ pred_of (get_or ls at []) TOP
    → (new : List ℕ) → new ≡ set hs at (first_from (get_or ls at []) to) → IsChain ls new at × (get_or new at TOP ≡ first_from (concat ls) to)
moved ls hs at to c above top reaches new is =
    let w = inside hs at to above top in let y = first_from (get_or ls at []) to in
    chain_goes ls hs at to at c above top (omega arith) (λ k l h. absurd (omega (arith, l, h))) new (omega (arith, w, c.sized)) reaches
    (ap length is ∙ length-set hs at y) (ap (λ xs. get_or xs at 0) is ∙ get_or-set_same hs at y 0 w)
    (λ k n. ap (λ xs. get_or xs k 0) is ∙ get_or-set_other hs at k y 0 n)

here : (g : Over) (c : After-seek_leaf g) → IsChain (map leaf_list c.args.leaves.now) (map leaf_place c.seek_leaf.new.leaves) c.args.at
    × (get_or (map leaf_place c.seek_leaf.new.leaves) c.args.at TOP ≡ first_from (concat (map leaf_list c.args.leaves.now)) c.args.to)
here g c =
    moved (map leaf_list c.args.leaves.now) (map leaf_place c.args.leaves.now) c.args.at c.args.to c.requires.chain c.requires.above c.requires.top
    (omega (arith, c.if-last_at-to.true, c.last_at.ensures)) (map leaf_place c.seek_leaf.new.leaves) c.seek_leaf.ensures.places

pub returns-then-last_at-to : goal.returns-then-last_at-to
returns-then-last_at-to g c =
    let ls = map leaf_list c.args.leaves.now in let hs = map leaf_place c.args.leaves.now in
    let went = here g (goal.at.returns-then-last_at-to g c).After-seek_leaf in
    record {
      sound = c.seek_leaf.ensures.sound;
      lists = c.seek_leaf.ensures.lists;
      chain = went.0;
      place = went.1;
      falls = chain_falls ls ls (get_or hs c.args.at TOP) (get_or (map leaf_place c.seek_leaf.new.leaves) c.args.at TOP) c.args.to (chain_place ls hs c.args.at c.requires.chain)
          (λ z. (λ m. m, λ m. m)) c.requires.above c.requires.top went.1;
      moved = c.seek_leaf.ensures.moved;
      one = omega (arith, c.seek_leaf.ensures.one);
    }
