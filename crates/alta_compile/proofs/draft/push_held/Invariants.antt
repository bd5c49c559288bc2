use Rattle.std.proofs.Common.{◌≡◌, ◌++◌}
use Rattle.alta_machine.specs.PlanOf.{held}
use Rattle.alta_compile.proofs.draft.push_held.Given as goal

abbrev pub invariant-loop-i : goal.invariant-loop-i
invariant-loop-i l = l.out.items ≡ l.fn.out.items ++ held l.i
