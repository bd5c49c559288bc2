use Rattle.alta_docread.specs.FoundView.{walk_of}
use Rattle.alta_docread.specs.Tree.{found}
use Rattle.alta_docread.proofs.Unmoved.{unmoved_sound}
use Rattle.alta_docread.proofs.found.Found.begin.Goals as goal

pub go-requires-clause-sound : goal.go-requires-clause-sound
go-requires-clause-sound g c = (unmoved_sound (found (walk_of g.R.Reader.list g.R.Reader.all g.R.Reader.location g.R.Reader.left c.args.self.now)) c.requires).0
