use Rattle.std.proofs.Common.{arith}
use Rattle.alta_docread.specs.Tree.{tree_list, tree_place}
use Rattle.alta_docread.specs.View.{tree_of}
use Rattle.alta_docread.proofs.Each.{moved_begun, brought_ahead}
use Rattle.alta_docread.proofs.Unmoved.{unmoved_sound, ahead_nowhere}
use Rattle.alta_docread.proofs.Views.{seen_reading, seen_one}
use Rattle.alta_docread.proofs.reader.DocReader.starting_at.Goals as goal

pub seek-at-requires-clause-sound : goal.seek-at-requires-clause-sound
seek-at-requires-clause-sound g c = (unmoved_sound (tree_of g.R.Reader.list g.R.Reader.all g.R.Reader.location g.R.Reader.left c.args.node) c.requires.unmoved).0

pub invariant_of-result : goal.invariant_of-result
invariant_of-result g c =
    let tree = tree_of g.R.Reader.list g.R.Reader.all g.R.Reader.location g.R.Reader.left in
    let b = moved_begun (tree c.args.node) (tree c.seek-at.new.node) c.args.place c.args.steps.now c.seek-at.new.steps c.seek-at.ensures.moved c.requires.some c.requires.top in
    (b.0, omega (arith, b.1, c.seek-at.ensures.place), c.seek-at.ensures.place)

pub returns-clause-sound : goal.returns-clause-sound
returns-clause-sound g c =
    let tree = tree_of g.R.Reader.list g.R.Reader.all g.R.Reader.location g.R.Reader.left in
    let b = moved_begun (tree c.args.node) (tree c.seek-at.new.node) c.args.place c.args.steps.now c.seek-at.new.steps c.seek-at.ensures.moved c.requires.some c.requires.top in
    seen_reading (tree c.seek-at.new.node) b.0 b.1

pub returns-clause-location : goal.returns-clause-location
returns-clause-location g c =
    let tree = tree_of g.R.Reader.list g.R.Reader.all g.R.Reader.location g.R.Reader.left in
    let old = tree c.args.node in let u = unmoved_sound old c.requires.unmoved in
    brought_ahead old (tree c.seek-at.new.node) c.args.place u.0 c.requires.some (ahead_nowhere c.args.place (tree_list old) (tree_place old) u.1) c.seek-at.ensures.moved.place

pub returns-clause-one_found : goal.returns-clause-one_found
returns-clause-one_found g c = λ one. seen_one (tree_of g.R.Reader.list g.R.Reader.all g.R.Reader.location g.R.Reader.left c.seek-at.new.node) (c.seek-at.ensures.moved.one one)
