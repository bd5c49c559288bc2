use Rattle.std.proofs.Common.{◌-◌, [], map}
use Rattle.alta_codec.specs.declared.location.TheConstants.{TOP}
use Rattle.alta_compound.specs.Union.{union_of}
use Rattle.alta_lead.specs.Having.{ends_with_any}
use Rattle.alta_lead.proofs.Tallying.{IsTallying}
use Rattle.alta_lead.proofs.any_of.tally_any_of.Given as goal

abbrev pub invariant-documents : goal.invariant-documents
invariant-documents g l =
    let X = g.E.Reader in let R = g.R.Reader in
    IsTallying X.sound X.list X.all X.location X.left X.cost R.sound R.list R.all R.location R.left R.cost (union_of (map R.list l.fn.words))
    (ends_with_any (X.list l.fn.ends.inner) (map R.list l.fn.words)) l.fn.ends.inner l.ends.inner l.fn.words l.words [] [] l.gone 1 l.from l.live l.passed l.fn.steps l.steps

abbrev pub decreases-documents : goal.decreases-documents
decreases-documents g l = TOP - l.from
