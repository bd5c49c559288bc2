use Rattle.alta_search.specs.WordLaws.{term_stands}
use Rattle.alta_search.proofs.term_reader.TermReaderReader.loc.Goals as goal

pub returns-clause-place : goal.returns-clause-place
returns-clause-place c = term_stands c.args.self.now c.requires
