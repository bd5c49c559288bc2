-- A reader of solutions as a walk over plain lists.
use Rattle.std.specs.Prelude.{ℕ, List, map, sum_by}
use Rattle.alta_solver.specs.declared.solver.Solver.{Solver}
use Rattle.alta_docread.specs.Solutions.{Walk}
use Rattle.alta_docread.specs.declared.found.Found.{Found}

abbrev pub walk_of : {R : Type 0} → (R → List ℕ) → (R → List ℕ) → (R → ℕ) → (R → ℕ) → Found R → Walk
walk_of list all location left f =
    record {
      lists = map list f.solver.readers;
      alls = map all f.solver.readers;
      places = map location f.solver.readers;
      bounds = f.solver.bounds;
      left = sum_by left f.solver.readers;
      at = f.at;
    }

-- the solver that a reader of solutions goes by
abbrev pub solver_of : {R : Type 0} → Found R → Solver R
solver_of f = f.solver
