use Rattle.alta_lead.specs.Moves.{rest_of}
use Rattle.alta_lead.proofs.Going.{IsGoing}
use Rattle.alta_lead.proofs.rounds.go.Given as goal

abbrev pub invariant-rounds : goal.invariant-rounds
invariant-rounds g l =
    let R = g.R.Reader in
    IsGoing R.sound R.list R.all R.location R.left R.cost l.lead (record { ends = l.fn.ends.inner; words = l.fn.words; negated = l.fn.negated })
    (record { ends = l.ends.inner; words = l.words; negated = l.negated }) l.to l.goal l.fn.steps l.steps

abbrev pub decreases-rounds : goal.decreases-rounds
decreases-rounds g l =
    rest_of g.R.Reader.list (record { ends = l.ends.inner; words = l.words; negated = l.negated }) l.lead l.goal
