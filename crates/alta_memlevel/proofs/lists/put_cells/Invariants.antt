use Rattle.std.proofs.Common.{◌≡◌, ℕ, ◌+◌, List, ◌++◌, take}
use Rattle.alta_memlevel.specs.Added.{places_of}
use Rattle.alta_memlevel.specs.Lists.{list_in, IsIndex}
use Rattle.alta_memlevel.proofs.lists.put_cells.Given as goal

abbrev pub invariant-loop-cell : goal.invariant-loop-cell
invariant-loop-cell l =
    IsIndex l.lists.entries × (l.location ≡ l.first + l.cell-index)
    × ((other : List ℕ) → list_in l.lists.entries other ≡ list_in l.fn.lists.entries other ++ places_of l.first other (take l.cell-index l.cells))
