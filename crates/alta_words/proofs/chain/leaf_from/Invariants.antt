use Rattle.std.proofs.Common.{ℕ, ◌-◌, ◌<◌, ◌≤◌, [], map, length, get_or}
use Rattle.alta_codec.specs.declared.location.TheConstants.{TOP}
use Rattle.alta_codec.specs.Rising.{pred_of}
use Rattle.alta_words.specs.Leaf.{leaf_list}
use Rattle.alta_words.proofs.chain.leaf_from.Given as goal

abbrev pub invariant-leaves : goal.invariant-leaves
invariant-leaves l =
    record {
      after : l.from ≤ l.at;
      within : l.at ≤ length l.leaves;
      skipped : (k : ℕ) → l.from ≤ k → k < l.at → pred_of (get_or (map leaf_list l.leaves) k []) TOP < l.to;
    }

abbrev pub decreases-leaves : goal.decreases-leaves
decreases-leaves l = length l.leaves - l.at
