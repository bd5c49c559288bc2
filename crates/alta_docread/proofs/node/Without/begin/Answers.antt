use Rattle.std.proofs.Common.{arith}
use Rattle.alta_docread.specs.View.{apart_of}
use Rattle.alta_docread.proofs.Each.{moved_begun}
use Rattle.alta_docread.proofs.Unmoved.{unmoved_sound}
use Rattle.alta_docread.proofs.node.Without.begin.Goals as goal

pub go_without-requires-clause-sound : goal.go_without-requires-clause-sound
go_without-requires-clause-sound g c = (unmoved_sound (apart_of g.R.Reader.list g.R.Reader.all g.R.Reader.location g.R.Reader.left c.args.self.now) c.requires).0

pub returns-clause-sound : goal.returns-clause-sound
returns-clause-sound g c =
    let apart = apart_of g.R.Reader.list g.R.Reader.all g.R.Reader.location g.R.Reader.left in
    moved_begun (apart c.args.self.now) (apart c.go_without.new.reader) 1 c.args.steps.now c.go_without.new.steps c.go_without.ensures (omega arith) (omega arith)
