use Rattle.alta_compound.specs.OverReaders.{in_step_place}
use Rattle.alta_compound.proofs.any.AnyReaderReader.loc.Goals as goal

pub returns-clause-place : goal.returns-clause-place
returns-clause-place g c =
    in_step_place g.R.Reader.list g.R.Reader.location c.args.self.now.readers.items c.args.self.now.at c.requires.1.in_step
