use Rattle.alta_lead.proofs.Leading.{on_ahead, went_on}
use Rattle.alta_lead.proofs.reader.LeadReader.go_on.Goals as goal

pub bring-requires-clause-unpassed : goal.bring-requires-clause-unpassed
bring-requires-clause-unpassed g c =
    on_ahead g.R.Reader.sound g.R.Reader.list g.R.Reader.location c.args.self.now c.args.to c.requires.sound c.requires.above c.requires.top

pub returns : goal.returns
returns g c =
    let R = g.R.Reader in
    went_on R.sound R.list R.all R.location R.left R.cost c.args.self.now c.bring.new.self c.args.to c.args.steps.now c.bring.new.steps
    c.requires.sound c.requires.above c.requires.top c.bring.ensures.lead c.bring.ensures.gone
