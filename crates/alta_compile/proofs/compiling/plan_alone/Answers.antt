use Rattle.std.proofs.Common.{◌≡◌, ℕ, Option, subst}
use Rattle.std.specs.Prelude.{IfOk}
use Rattle.alta_machine.specs.Patterns.{pattern_of}
use Rattle.alta_query.specs.View.{atom_view}
use Rattle.alta_machine.specs.PlanOf.{atom_plan}
use Rattle.alta_compile.specs.View.{tree}
use Rattle.alta_compile.proofs.compiling.plan_alone.Goals as goal

pub returns-in-Some : goal.returns-in-Some
returns-in-Some c =
    subst (λ (o : Option (ℕ × ℕ)). IfOk c.plan_value.result (λ p. tree p ≡ atom_plan (pattern_of (atom_view c.args.atom.now)) o)) c.in-Some.ensures c.plan_value.ensures

pub returns-in-None : goal.returns-in-None
returns-in-None c =
    subst (λ (o : Option (ℕ × ℕ)). IfOk c.plan_pattern.result (λ p. tree p ≡ atom_plan (pattern_of (atom_view c.args.atom.now)) o)) c.in-None.ensures c.plan_pattern.ensures
