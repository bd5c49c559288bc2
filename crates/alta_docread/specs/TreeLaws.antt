-- Each tree's list rises, and a tree that has begun stands at an element of its list, or at TOP.
use Rattle.std.proofs.Common.{ℕ, ◌<◌, List, [], ◌∷◌}
use Rattle.std.specs.Prelude.{All}
use Rattle.std.proofs.lemmas.List.Elements.{All-nil, All-cons, All-head, All-tail}
use Rattle.alta_codec.specs.Rising.{IsRising, IsPlace}
use Rattle.alta_compound.specs.Union.{union_of, union}
use Rattle.alta_compound.specs.Unions.{union-rises, above_from_rising, rising_from_above}
use Rattle.alta_docread.specs.KeptLaws.{less-rises, common-rises}
use Rattle.alta_docread.specs.SolutionLaws.{walk_rises, walk_place}
use Rattle.alta_docread.specs.Tree.{Tree, Trees, found, all_of, any_of, without, none, more, tree_list, lists_of, tree_place, IsSoundTree, AreSoundTrees}

pub union-all-rises : (ls : List (List ℕ)) → All (λ l. IsRising l) ls → IsRising (union_of ls)
unfolding union_of
union-all-rises [] r = rising_from_above [] tt
union-all-rises (l ∷ ls) r =
    rising_from_above (union l (union_of ls))
    (union-rises l (union_of ls) 0 (above_from_rising l (All-head (λ l. IsRising l) l ls r))
    (above_from_rising (union_of ls) (union-all-rises ls (All-tail (λ l. IsRising l) l ls r))))

mutual
  pub tree_rises : (t : Tree) → IsSoundTree t → IsRising (tree_list t)
  tree_rises (found w) s = walk_rises w s
  tree_rises (all_of ts) s = common-rises (lists_of ts) (trees_rise ts s.0)
  tree_rises (any_of ts) s = union-all-rises (lists_of ts) (trees_rise ts s.0)
  tree_rises (without at r t) s = less-rises r.list (tree_list t) s.1.rising

  trees_rise : (ts : Trees) → AreSoundTrees ts → All (λ l. IsRising l) (lists_of ts)
  trees_rise none s = All-nil (λ l. IsRising l)
  trees_rise (more t ts) s = All-cons (λ l. IsRising l) (tree_list t) (lists_of ts)
      (tree_rises t s.0) (trees_rise ts s.1)

pub tree_stands : (t : Tree) → IsSoundTree t → 0 < tree_place t → IsPlace (tree_list t) (tree_place t)
tree_stands (found w) s begun = walk_place w s begun
tree_stands (all_of ts) s begun = s.1.standing.stands begun
tree_stands (any_of ts) s begun = s.1.standing.stands begun
tree_stands (without at r t) s begun = s.1.standing.stands begun
