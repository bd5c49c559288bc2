use Rattle.std.proofs.Common.{arith, rules, ap, [], sym, ◌∙◌, subst}
use Rattle.std.proofs.lemmas.List.{get_or_default}
use Rattle.alta_machine.specs.Patterns.{meets}
use Rattle.alta_model.proofs.Nears.{near_found, none_close}
use Rattle.alta_model.specs.Near.{AreApart}
use Rattle.alta_model.proofs.near.holds_near.Goals as goal

pub returns-then-are_close : goal.returns-then-are_close
returns-then-are_close c = (
  λ _. near_found _ _ _ _ c.loop-i.i c.loop-i.last_left c.loop-i.last_right c.later-last_left.result c.later-last_right.result c.is_met.result c.is_met-in-loop-i.result
      c.loop-i-test.true
      (c.is_met.ensures ∙ ap (meets c.args.left.now) (c.index-cells-i.is ∙ get_or_default _ _ _ [] c.loop-i-test.true))
      (c.is_met-in-loop-i.ensures ∙ ap (meets c.args.right.now) (c.index-cells-i-in-loop-i.is ∙ get_or_default _ _ _ [] c.loop-i-test.true))
      c.loop-i.invariant.left c.loop-i.invariant.right c.later-last_left.ensures c.later-last_right.ensures (sym c.are_close.ensures ∙ c.if-are_close.true),
  λ _. search rules,
)

pub returns : goal.returns
returns c = (
  λ h. search (rules, h),
  λ h. absurd (none_close c.args.cells.now c.args.left.now c.args.distance c.args.right.now
      (subst (λ i. AreApart c.args.cells.now c.args.left.now c.args.distance c.args.right.now i) (omega (arith, c.loop-i-test.false, c.loop-i.invariant.within)) c.loop-i.invariant.apart) h),
)
