use Rattle.std.proofs.Common.{◌+◌, ◌-◌, ◌*◌, map}
use Rattle.alta_codec.specs.declared.location.TheConstants.{TOP}
use Rattle.alta_docread.specs.Tree.{trees_of, tree_depth, depth_in}
use Rattle.alta_docread.specs.View.{reading_of, tree_of}
use Rattle.alta_docread.proofs.Passing.{IsPassing, IsAgreeing}
use Rattle.alta_docread.proofs.Reaching.{IsReaching}
use Rattle.alta_docread.proofs.Skipping.{IsSkipping}
use Rattle.alta_docread.proofs.moves.+moves.Given as goal

abbrev pub invariant-seek_each-loop-i : goal.invariant-seek_each-loop-i
invariant-seek_each-loop-i g l =
    let tree = tree_of g.R.Reader.list g.R.Reader.all g.R.Reader.location g.R.Reader.left in
    record {
      unvisited : goal.unvisited-seek_each-loop-i g l;
      reaching : IsReaching tree l.initial.nodes.items l.nodes.items l.to l.least l.i l.initial.steps l.steps;
    }

abbrev pub invariant-pass-loop-i : goal.invariant-pass-loop-i
invariant-pass-loop-i g l =
    let tree = tree_of g.R.Reader.list g.R.Reader.all g.R.Reader.location g.R.Reader.left in
    record {
      unvisited : goal.unvisited-pass-loop-i g l;
      passing : IsPassing tree l.initial.nodes.items l.nodes.items l.goal l.least l.last l.i l.initial.steps l.steps;
    }

abbrev pub invariant-agree-agree : goal.invariant-agree-agree
invariant-agree-agree g l =
    let tree = tree_of g.R.Reader.list g.R.Reader.all g.R.Reader.location g.R.Reader.left in
    IsAgreeing tree l.initial.nodes.items l.nodes.items l.to l.goal l.initial.steps l.steps

abbrev pub decreases-agree-agree : goal.decreases-agree-agree
decreases-agree-agree g l = TOP - l.goal

abbrev pub invariant-skip-ends : goal.invariant-skip-ends
invariant-skip-ends g l =
    let tree = tree_of g.R.Reader.list g.R.Reader.all g.R.Reader.location g.R.Reader.left in
    let reading = reading_of g.R.Reader.list g.R.Reader.all g.R.Reader.location g.R.Reader.left in
    IsSkipping (reading l.fn.ends) (reading l.ends) (tree l.fn.child) (tree l.child) l.to l.fn.steps l.steps

abbrev pub decreases-skip-ends : goal.decreases-skip-ends
decreases-skip-ends g l = g.R.Reader.left l.ends.inner

abbrev pub decreases-seek : goal.decreases-seek
decreases-seek g l = 9 * tree_depth (tree_of g.R.Reader.list g.R.Reader.all g.R.Reader.location g.R.Reader.left l.node.now) + 1

abbrev pub decreases-seek_any : goal.decreases-seek_any
decreases-seek_any g l = 9 * depth_in (trees_of (map (tree_of g.R.Reader.list g.R.Reader.all g.R.Reader.location g.R.Reader.left) l.nodes.now.items)) + 7

abbrev pub decreases-seek_each : goal.decreases-seek_each
decreases-seek_each g l = 9 * depth_in (trees_of (map (tree_of g.R.Reader.list g.R.Reader.all g.R.Reader.location g.R.Reader.left) l.nodes.now.items)) + 5

abbrev pub decreases-seek_all : goal.decreases-seek_all
decreases-seek_all g l = 9 * depth_in (trees_of (map (tree_of g.R.Reader.list g.R.Reader.all g.R.Reader.location g.R.Reader.left) l.nodes.now.items)) + 7

abbrev pub decreases-agree : goal.decreases-agree
decreases-agree g l = 9 * depth_in (trees_of (map (tree_of g.R.Reader.list g.R.Reader.all g.R.Reader.location g.R.Reader.left) l.nodes.now.items)) + 6

abbrev pub decreases-pass : goal.decreases-pass
decreases-pass g l = 9 * depth_in (trees_of (map (tree_of g.R.Reader.list g.R.Reader.all g.R.Reader.location g.R.Reader.left) l.nodes.now.items)) + 5

abbrev pub decreases-seek_without : goal.decreases-seek_without
decreases-seek_without g l = 9 * tree_depth (tree_of g.R.Reader.list g.R.Reader.all g.R.Reader.location g.R.Reader.left l.reader.now.value.child) + 8

abbrev pub decreases-go_without : goal.decreases-go_without
decreases-go_without g l = 9 * tree_depth (tree_of g.R.Reader.list g.R.Reader.all g.R.Reader.location g.R.Reader.left l.reader.now.child) + 7

abbrev pub decreases-skip : goal.decreases-skip
decreases-skip g l = 9 * tree_depth (tree_of g.R.Reader.list g.R.Reader.all g.R.Reader.location g.R.Reader.left l.child.now) + 6

abbrev pub decreases-has : goal.decreases-has
decreases-has g l = 9 * tree_depth (tree_of g.R.Reader.list g.R.Reader.all g.R.Reader.location g.R.Reader.left l.child.now) + 5
