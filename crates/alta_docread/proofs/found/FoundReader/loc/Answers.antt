use Rattle.alta_docread.specs.FoundView.{walk_of}
use Rattle.alta_docread.specs.SolutionLaws.{walk_place}
use Rattle.alta_docread.proofs.Solved.{walk_within}
use Rattle.alta_docread.proofs.found.FoundReader.loc.Goals as goal

pub returns-clause-place : goal.returns-clause-place
returns-clause-place g c =
    walk_place (walk_of g.R.Reader.list g.R.Reader.all g.R.Reader.location g.R.Reader.left c.args.self.now) c.requires.0 c.requires.1

pub returns-clause-within : goal.returns-clause-within
returns-clause-within g c =
    walk_within (walk_of g.R.Reader.list g.R.Reader.all g.R.Reader.location g.R.Reader.left c.args.self.now) c.requires.0 c.requires.1
