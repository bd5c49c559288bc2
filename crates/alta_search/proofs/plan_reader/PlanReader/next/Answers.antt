use Rattle.std.proofs.Common.{subst}
use Rattle.alta_search.specs.Walks.{PlanView, IsOnward}
use Rattle.alta_search.specs.Ways.{way_view}
use Rattle.alta_search.proofs.LeadMoves.{way_reading}
use Rattle.alta_search.proofs.plan_reader.PlanReader.next.Goals as goal

pub returns-clause-onward : goal.returns-clause-onward
returns-clause-onward g c =
    let e = c.step.ensures in let w = c.step.new.way in
    let on : IsOnward (way_view c.self.inside.way) (way_view w) c.args.steps.now c.step.new.steps =
    record { stands = way_reading w e.sound; list = e.list; all = e.all; one = e.one; steps = e.steps; moves = e.moves } in
    subst (λ (v : PlanView). IsOnward v (way_view w) c.args.steps.now c.step.new.steps) c.self.view_is on
