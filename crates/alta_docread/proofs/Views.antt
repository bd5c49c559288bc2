-- What is seen of a tree that stands somewhere.
use Rattle.std.proofs.Common.{◌≡◌, ◌<◌, refl, true, false, sym}
use Rattle.std.specs.Prelude.{IsTrue}
use Rattle.alta_docread.specs.DocView.{IsReading, is_one_found, view_of}
use Rattle.alta_docread.specs.Tree.{Tree, found, all_of, any_of, without, tree_place, IsOneFound, IsSoundTree}
use Rattle.alta_docread.specs.TreeLaws.{tree_rises, tree_stands}

pub seen_reading : (t : Tree) → IsSoundTree t → 0 < tree_place t → IsReading (view_of t)
seen_reading t sound begun = record { rising = tree_rises t sound; stands = tree_stands t sound begun }

pub seen_one : (t : Tree) → IsOneFound t → IsTrue (is_one_found t)
seen_one (found w) one = refl
seen_one (all_of ts) one = absurd one
seen_one (any_of ts) one = absurd one
seen_one (without at r t) one = absurd one

pub one_seen : (t : Tree) → IsTrue (is_one_found t) → IsOneFound t
one_seen (found w) one = tt
one_seen (all_of ts) one = let c : true ≡ false = sym one in absurd cc
one_seen (any_of ts) one = let c : true ≡ false = sym one in absurd cc
one_seen (without at r t) one = let c : true ≡ false = sym one in absurd cc
