-- The leaves of a chain, and what a move does to them.
use Rattle.std.specs.Prelude.{◌≡◌, ◌≢◌, ℕ, ◌+◌, ◌<◌, ◌≤◌, List, All, length, map, slice_index_or}
use Rattle.std.specs.List.{concat}
use Rattle.alta_codec.specs.Rising.{first_from, count_from}
use Rattle.alta_codec.specs.declared.location.TheConstants.{TOP}
use Rattle.alta_words.specs.Chain.{IsChain}
use Rattle.alta_words.specs.Leaf.{IsSoundLeaf, leaf_list, leaf_place}
use Rattle.alta_words.specs.declared.leaf.Leaf.{Leaf}
use Rattle.alta_words.specs.declared.chain.ChainReader.{ChainReader}

-- the leaves, in the order of their lists
abbrev pub leaves_of : ChainReader → List Leaf
leaves_of chain = chain.leaves.items

-- at most one leaf is another than before: no leaf but one changed
pub record MovesAtMostOne (old new : List Leaf) : Type 0 where
  pub sized : length new ≡ length old
  pub which : ℕ
  pub others : (k : ℕ) (d : Leaf) → k ≢ which → slice_index_or new k d ≡ slice_index_or old k d

-- A chain that is read at one leaf went on to the first place of its list at or above `to`, and is read at leaf `here`. Less of the list
-- is left from there on. At most one leaf is another than before, by one step.
pub record GoesOn (old new : List Leaf) (at to here before after : ℕ) : Type 0 where
  pub sound : All IsSoundLeaf new
  pub lists : map leaf_list new ≡ map leaf_list old
  pub chain : IsChain (map leaf_list old) (map leaf_place new) here
  pub place : slice_index_or (map leaf_place new) here TOP ≡ first_from (concat (map leaf_list old)) to
  pub falls : count_from (concat (map leaf_list old)) (slice_index_or (map leaf_place new) here TOP)
      < count_from (concat (map leaf_list old)) (slice_index_or (map leaf_place old) at TOP)
  pub moved : MovesAtMostOne old new
  pub one : after ≤ before + 1
