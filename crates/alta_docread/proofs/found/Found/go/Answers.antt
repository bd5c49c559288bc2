use Rattle.alta_docread.specs.FoundView.{walk_of}
use Rattle.alta_docread.proofs.Walks.{walked}
use Rattle.alta_docread.proofs.found.Found.go.Goals as goal

pub returns : goal.returns
returns g c =
    let view = walk_of g.R.Reader.list g.R.Reader.all g.R.Reader.location g.R.Reader.left in let w = c.walk-self.ensures in
    walked (view c.args.self.now) _ c.args.to c.args.steps.now _ c.requires.sound c.requires.above c.requires.top
    w.lists w.alls w.system w.walking w.place w.unpassed w.left w.falls w.steps
