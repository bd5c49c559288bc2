use Rattle.alta_lead.specs.View.{chains_of}
use Rattle.alta_lead.proofs.Leading.{counts}
use Rattle.alta_lead.proofs.reader.LeadReaderReader.loc.Goals as goal

pub returns-clause-counted : goal.returns-clause-counted
returns-clause-counted g c = λ below.
    let R = g.R.Reader in let s = c.requires in
    counts R.sound R.list R.all R.location R.left g.met.R.BackReader.members g.met.R.BackReader.left_is (chains_of c.args.self.now) c.args.self.now.at
    s.ends s.words s.negated (s.unpassed below)
