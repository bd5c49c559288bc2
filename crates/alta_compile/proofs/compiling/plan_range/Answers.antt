use Rattle.std.proofs.Common.{◌≡◌, ℕ, List, [], ◌∷◌, subst, ◌∙◌}
use Rattle.std.specs.Prelude.{IfOk}
use Rattle.alta_machine.specs.Patterns.{phrase_pattern}
use Rattle.alta_machine.specs.declared.test.Test.TheVariants.{Is}
use Rattle.alta_machine.specs.PlanOf.{found_of}
use Rattle.alta_compile.proofs.compiling.plan_range.Goals as goal

pub returns : goal.returns
returns c =
    subst (λ (t : List ℕ). IfOk c.plan_term.result (λ f. f ≡ found_of (phrase_pattern (Is t ∷ [])))) (c.from_vec.ensures ∙ c.in_ok-term.ensures.items ∙ c.range_term.ensures) c.plan_term.ensures
