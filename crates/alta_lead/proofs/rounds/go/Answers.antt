use Rattle.std.proofs.Common.{Bool, subst}
use Rattle.alta_lead.specs.Moves.{Chains}
use Rattle.alta_lead.specs.Rounds.{IsRound}
use Rattle.alta_lead.proofs.Going.{going_starts, going_on, gone}
use Rattle.alta_lead.proofs.rounds.go.Goals as goal

pub rounds-init : goal.rounds-init
rounds-init g c =
    let R = g.R.Reader in
    going_starts R.sound R.list R.all R.location R.left R.cost c.args.lead
    (record { ends = c.args.ends.now.inner; words = c.args.words.now; negated = c.args.negated.now })
    c.args.to c.args.steps.now c.requires.ends c.requires.words c.requires.negated c.requires.top c.requires.unpassed

pub returns-then-found : goal.returns-then-found
returns-then-found g c =
    let R = g.R.Reader in let r = c.round-next in
    let old : Chains g.row.R.Denot = record { ends = c.args.ends.now.inner; words = c.args.words.now; negated = c.args.negated.now } in
    let mid : Chains g.row.R.Denot = record { ends = c.rounds.ends.inner; words = c.rounds.words; negated = c.rounds.negated } in
    let new : Chains g.row.R.Denot = record { ends = r.new.ends.inner; words = r.new.words; negated = r.new.negated } in
    gone R.sound R.list R.all R.location R.left R.cost c.args.lead old mid new c.args.to c.rounds.goal r.result.0 c.args.steps.now c.rounds.steps r.new.steps c.rounds.invariant
    (g.met.R.Reader.rises c.args.ends.now.inner c.requires.ends)
    (subst (λ (b : Bool). IsRound R.sound R.list R.all R.location R.left R.cost c.args.lead mid new c.rounds.goal r.result.0 b c.rounds.steps r.new.steps) c.if-found.true r.ensures)

pub rounds-preserved : goal.rounds-preserved
rounds-preserved g c =
    let R = g.R.Reader in let r = c.round-next in
    let old : Chains g.row.R.Denot = record { ends = c.args.ends.now.inner; words = c.args.words.now; negated = c.args.negated.now } in
    let mid : Chains g.row.R.Denot = record { ends = c.rounds.ends.inner; words = c.rounds.words; negated = c.rounds.negated } in
    let new : Chains g.row.R.Denot = record { ends = r.new.ends.inner; words = r.new.words; negated = r.new.negated } in
    going_on R.sound R.list R.all R.location R.left R.cost c.args.lead old mid new c.args.to c.rounds.goal r.result.0 c.args.steps.now c.rounds.steps r.new.steps c.rounds.invariant
    (subst (λ (b : Bool). IsRound R.sound R.list R.all R.location R.left R.cost c.args.lead mid new c.rounds.goal r.result.0 b c.rounds.steps r.new.steps) c.if-found.false r.ensures)
