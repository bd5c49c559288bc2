use Rattle.std.proofs.Common.{◌≡◌, ◌++◌, ◌≤◌, ℕ, suc, map, drop}
use Rattle.alta_machine.specs.Patterns.{neighbours}
use Rattle.alta_compile.specs.Drafted.{placed}
use Rattle.alta_compile.proofs.draft.push_neighbours.Given as goal

abbrev pub invariant-loop-i : goal.invariant-loop-i
invariant-loop-i l =
    (1 ≤ l.i)
    × ((k : ℕ) → l.i ≡ suc k → l.out.items ++ map (placed l.base) (neighbours k (drop k l.words)) ≡ l.fn.out.items ++ map (placed l.base) (neighbours 0 l.words))
