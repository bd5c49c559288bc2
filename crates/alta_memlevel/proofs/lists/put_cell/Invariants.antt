use Rattle.std.proofs.Common.{◌≡◌, ℕ, List, [], ◌∷◌, ◌++◌, cond, take}
use Rattle.alta_machine.specs.Cells.{cell_holds}
use Rattle.alta_memlevel.specs.Lists.{list_in, IsIndex}
use Rattle.alta_memlevel.proofs.lists.put_cell.Given as goal

abbrev pub invariant-loop-i : goal.invariant-loop-i
invariant-loop-i l =
    IsIndex l.lists.entries
    × ((other : List ℕ) → list_in l.lists.entries other ≡ list_in l.fn.lists.entries other ++ cond (cell_holds other (take l.i l.cell)) (l.location ∷ []) [])
