use Rattle.std.proofs.Common.{◌≡◌, ◌+◌, drop, map, sym, ap, subst, ◌∙◌}
use Rattle.alta_machine.specs.Shape.{shapes_of}
use Rattle.alta_query.specs.View.{shape}
use Rattle.alta_machine.specs.PlanOf.{plans_of, others_of}
use Rattle.alta_compile.proofs.Gathered.{each_step, each_end, other_step, atom_step, others_end, trees_then}
use Rattle.alta_compile.specs.View.{tree}
use Rattle.alta_compile.proofs.compiling.+compiling.Goals.{plan_others-then-not-is_one_atom+in_ok-other+in_ok-push, plan_others-else-not-is_one_atom}
use Rattle.alta_compile.proofs.compiling.+compiling.Goals as goal

pub plan_each-loop-member-preserved : goal.plan_each-loop-member-preserved
plan_each-loop-member-preserved t c =
    each_step c.args.members.now c.loop-member.member-index c.member-item.result c.loop-member.plans.items c.push.new.self.items c.in_ok-plan.plan
    (plans_of (shapes_of (map shape c.args.members.now))) c.loop-member-test.true (sym c.member-item.is) c.in_ok-plan.ensures c.in_ok-push.ensures.items
    c.loop-member.invariant

pub plan_each-returns : goal.plan_each-returns
plan_each-returns t c =
    each_end c.args.members.now c.loop-member.member-index c.loop-member.plans.items (plans_of (shapes_of (map shape c.args.members.now)))
    c.loop-member-test.false c.loop-member.invariant

pub plan_others-loop-member-preserved : goal.plan_others-loop-member-preserved
plan_others-loop-member-preserved t c =
    elim c.if-not-is_one_atom.branch [
      | plan_others-then-not-is_one_atom+in_ok-other+in_ok-push w ↦
          other_step c.args.members.now c.loop-member.member-index c.member-item.result c.loop-member.others.items c.if-not-is_one_atom.others.items
          w.in_ok-other.other (others_of (shapes_of (map shape c.args.members.now))) c.loop-member-test.true (sym c.member-item.is)
          (sym c.is_one_atom.ensures ∙ w.if-not-is_one_atom.true) w.in_ok-other.ensures (ap (λ v. v.items) w.others-is ∙ w.in_ok-push.ensures.items)
          c.loop-member.invariant
      | plan_others-else-not-is_one_atom w ↦
          subst (λ v. trees_then (map tree v.items) (others_of (shapes_of (map shape (drop (c.loop-member.member-index + 1) c.args.members.now)))) ≡ others_of (shapes_of (map shape c.args.members.now)))
          (sym w.others-is)
          (atom_step c.args.members.now c.loop-member.member-index c.member-item.result c.loop-member.others.items
          (others_of (shapes_of (map shape c.args.members.now))) c.loop-member-test.true (sym c.member-item.is)
          (sym c.is_one_atom.ensures ∙ w.if-not-is_one_atom.false) c.loop-member.invariant)
    ]

pub plan_others-returns : goal.plan_others-returns
plan_others-returns t c =
    others_end c.args.members.now c.loop-member.member-index c.loop-member.others.items (others_of (shapes_of (map shape c.args.members.now)))
    c.loop-member-test.false c.loop-member.invariant
