use Rattle.std.proofs.Common.{arith}
use Rattle.alta_docread.specs.View.{tree_of}
use Rattle.alta_docread.proofs.Each.{moved_begun}
use Rattle.alta_docread.proofs.Views.{seen_reading}
use Rattle.alta_docread.proofs.reader.DocReaderReader.seek.Goals as goal

pub invariant_of-self : goal.invariant_of-self
invariant_of-self g c =
    let tree = tree_of g.R.Reader.list g.R.Reader.all g.R.Reader.location g.R.Reader.left in let moved = c.seek-self-inside.ensures in
    let b = moved_begun (tree c.self.inside.node) (tree c.seek-self-inside.new.node) c.args.to c.args.steps.now c.seek-self-inside.new.steps moved.moved
    (omega (arith, c.requires.above)) c.requires.top in
    (b.0, omega (arith, b.1, moved.place), moved.place)

pub returns-clause-sound : goal.returns-clause-sound
returns-clause-sound g c =
    let tree = tree_of g.R.Reader.list g.R.Reader.all g.R.Reader.location g.R.Reader.left in let moved = c.seek-self-inside.ensures in
    let b = moved_begun (tree c.self.inside.node) (tree c.seek-self-inside.new.node) c.args.to c.args.steps.now c.seek-self-inside.new.steps moved.moved
    (omega (arith, c.requires.above)) c.requires.top in
    seen_reading (tree c.seek-self-inside.new.node) b.0 b.1
