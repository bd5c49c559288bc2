-- A tree of document readers as a tree of plain lists.
use Rattle.std.specs.Prelude.{ℕ, List, map}
use Rattle.alta_compound.specs.declared.end.EndReader.{EndReader}
use Rattle.alta_docread.specs.FoundView.{walk_of}
use Rattle.alta_docread.specs.Tree.{Reading, Tree, Trees, found, all_of, any_of, without, trees_of}
use Rattle.alta_docread.specs.declared.node.Node.{Node}
use Rattle.alta_docread.specs.declared.node.Without.{Without}
use Rattle.alta_docread.specs.declared.node.Node.TheFolds.{fold-Node}
use Rattle.alta_docread.specs.declared.node.Node.TheOpen.{Node-F, Without-F}

module _ {R : Type 0} (list all : R → List ℕ) (location left : R → ℕ) where
  abbrev pub reading_of : EndReader R → Reading
  reading_of e = record { list = list e.inner; all = all e.inner; place = location e.inner; left = left e.inner }

  abbrev pub node_step : Node-F R Tree Tree → Tree
  node_step (Node-F.Found f) = found (walk_of list all location left f.value)
  node_step (Node-F.AllOf ns) = all_of (trees_of ns.items)
  node_step (Node-F.AnyOf ns) = any_of (trees_of ns.items)
  node_step (Node-F.Without w) = w.value

  abbrev pub without_step : Without-F R Tree Tree → Tree
  without_step w = without w.at (reading_of w.ends) w.child

  abbrev pub tree_of : Node R → Tree
  tree_of = fold-Node R Tree Tree node_step without_step

  abbrev pub trees_in : List (Node R) → Trees
  trees_in ns = trees_of (map tree_of ns)

  -- what a Without is
  abbrev pub apart_of : Without R → Tree
  apart_of w = without w.at (reading_of w.ends) (tree_of w.child)
