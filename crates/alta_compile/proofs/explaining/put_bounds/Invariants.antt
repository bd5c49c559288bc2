use Rattle.std.proofs.Common.{◌≡◌, ◌++◌, drop}
use Rattle.alta_machine.specs.Explained.{bound_lines, deeper}
use Rattle.alta_compile.proofs.explaining.put_bounds.Given as goal

abbrev pub invariant-loop-bound : goal.invariant-loop-bound
invariant-loop-bound l = l.out.items ++ bound_lines (deeper l.margin) (drop l.bound-index l.bounds) ≡ l.fn.out.items ++ bound_lines (deeper l.margin) l.bounds
