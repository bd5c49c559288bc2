use Rattle.std.proofs.Common.{◌-◌, [], map, get_or}
use Rattle.alta_codec.specs.declared.location.TheConstants.{TOP}
use Rattle.alta_lead.specs.Followed.{ends_followed}
use Rattle.alta_lead.proofs.Tallying.{IsTallying}
use Rattle.alta_lead.proofs.followed.tally_followed.Given as goal

abbrev pub invariant-documents : goal.invariant-documents
invariant-documents g l =
    let X = g.E.Reader in let R = g.R.Reader in
    IsTallying X.sound X.list X.all X.location X.left X.cost R.sound R.list R.all R.location R.left R.cost (get_or (map R.list l.fn.words) 0 [])
    (ends_followed (X.list l.fn.ends.inner) (get_or (map R.list l.fn.words) 0 []) (get_or (map R.list l.fn.words) 1 [])) l.fn.ends.inner l.ends.inner l.fn.words l.words [] [] l.gone 1 l.from l.live l.passed l.fn.steps l.steps

abbrev pub decreases-documents : goal.decreases-documents
decreases-documents g l = TOP - l.from
