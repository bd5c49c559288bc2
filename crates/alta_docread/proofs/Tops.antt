-- How high a tree and its readers stand.
use Rattle.std.proofs.Common.{◌<◌, ◌≤◌}
use Rattle.std.specs.Prelude.{All}
use Rattle.alta_codec.specs.declared.location.TheConstants.{TOP}
use Rattle.alta_docread.proofs.Solved.{walk_within}
use Rattle.alta_docread.specs.Tree.{Tree, found, all_of, any_of, without, tree_place, reader_places, IsOneFound, IsSoundTree}

pub tree_top : (t : Tree) → IsSoundTree t → tree_place t ≤ TOP
tree_top (found w) s = s.top
tree_top (all_of ts) s = s.1.standing.top
tree_top (any_of ts) s = s.1.standing.top
tree_top (without at r t) s = s.1.standing.top

-- the readers of one Found stand at its place or before it
pub tree_within : (t : Tree) → IsSoundTree t → IsOneFound t → 0 < tree_place t → tree_place t < TOP → All (λ x. x ≤ tree_place t) (reader_places t)
tree_within (found w) s one begun below = walk_within w s begun below
tree_within (all_of ts) s one begun below = absurd one
tree_within (any_of ts) s one begun below = absurd one
tree_within (without at r t) s one begun below = absurd one
