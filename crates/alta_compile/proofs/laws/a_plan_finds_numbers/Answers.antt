use Rattle.std.proofs.Common.{sym, subst}
use Rattle.alta_machine.specs.Matches.{Matches}
use Rattle.alta_machine.specs.Shape.{value, lone, atom}
use Rattle.alta_query.proofs.ValueLaws.{finds_numbers}
use Rattle.alta_compile.proofs.Meaning.{plan_matches}
use Rattle.alta_compile.proofs.Spaces.{has_contains}
use Rattle.alta_compile.proofs.laws.a_plan_finds_numbers.Goals as goal

pub returns : goal.returns
returns c = λ space d name title body low high s m e u v small.
    let query = atom (lone (value low high)) in
    let plan = plan_matches space s d (has_contains space d m) query in
    let found = finds_numbers name title body low high u v small in (
      λ h. found.0 (subst (λ cells. Matches cells query) e (plan.0 h)),
      λ h. plan.1 (subst (λ cells. Matches cells query) (sym e) (found.1 h)),
    )
