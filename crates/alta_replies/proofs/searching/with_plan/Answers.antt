use Rattle.std.proofs.Common.{◌≡◌, [], rules}
use Rattle.alta_machine.specs.Explained.{explained}
use Rattle.alta_machine.specs.PlanOf.{plan_of}
use Rattle.alta_query.specs.View.{shape}
use Rattle.alta_replies.proofs.SearchLaws.{plan_lines}
use Rattle.alta_replies.proofs.searching.with_plan.Goals as goal

pub returns : goal.returns
returns c =
    let lines : c.in_ok-plan.plan ≡ explained [] (plan_of (shape c.args.query.now)) =
    plan_lines (shape c.args.query.now) _ c.in_ok-plan.plan c.in_ok-compile.ensures.plan (c.a_plan_is_text.ensures (shape c.args.query.now) c.requires) c.in_ok-plan.ensures.exact in
    search (rules, lines)
