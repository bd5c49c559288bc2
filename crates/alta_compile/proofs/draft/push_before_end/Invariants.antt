use Rattle.std.proofs.Common.{◌≡◌, ◌++◌, map}
use Rattle.alta_machine.specs.Patterns.{before_end}
use Rattle.alta_compile.specs.Drafted.{placed}
use Rattle.alta_compile.proofs.draft.push_before_end.Given as goal

abbrev pub invariant-loop-i : goal.invariant-loop-i
invariant-loop-i l = l.out.items ≡ l.fn.out.items ++ map (placed l.base) (before_end l.count l.i)
