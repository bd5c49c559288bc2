use Rattle.std.proofs.Common.{◌-◌, [], map, get_or}
use Rattle.alta_codec.specs.declared.location.TheConstants.{TOP}
use Rattle.alta_lead.specs.Having.{ends_having}
use Rattle.alta_lead.proofs.Tallying.{IsTallying}
use Rattle.alta_lead.proofs.walk.tally_from.Given as goal

abbrev pub invariant-documents : goal.invariant-documents
invariant-documents g l =
    let X = g.E.Reader in let R = g.R.Reader in
    IsTallying X.sound X.list X.all X.location X.left X.cost R.sound R.list R.all R.location R.left R.cost (get_or (map R.list l.fn.words) l.lead [])
    (ends_having (X.list l.fn.ends.inner) (map R.list l.fn.words) (map R.list l.fn.negated)) l.fn.ends.inner l.ends.inner
    l.fn.words l.words l.fn.negated l.negated l.gone l.start l.from l.live l.passed l.fn.steps l.steps

abbrev pub decreases-documents : goal.decreases-documents
decreases-documents g l = TOP - l.from
