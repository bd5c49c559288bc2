use Rattle.std.proofs.Common.{◌≡◌, ℕ, ◌<◌, ◌≤◌, [], map, length, get_or}
use Rattle.alta_codec.specs.declared.location.TheConstants.{TOP}
use Rattle.alta_codec.specs.Rising.{pred_of}
use Rattle.alta_words.specs.Leaf.{leaf_list, leaf_place}
use Rattle.alta_words.proofs.chain.prev_of.Given as goal

abbrev pub invariant-back : goal.invariant-back
invariant-back l =
    record {
      first : l.at < length l.leaves → pred_of (get_or (map leaf_list l.leaves) l.at []) (get_or (map leaf_place l.leaves) l.at 0) ≡ 0;
      low : l.k ≤ l.at;
      empty : (i : ℕ) → l.k ≤ i → i < l.at → pred_of (get_or (map leaf_list l.leaves) i []) TOP ≡ 0;
    }

abbrev pub decreases-back : goal.decreases-back
decreases-back l = l.k
