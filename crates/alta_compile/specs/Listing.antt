-- The list of document ends that a plan stands for.
use Rattle.std.specs.Prelude.{ℕ, List, [], ◌∷◌, map}
use Rattle.alta_compound.specs.Union.{union_of}
use Rattle.alta_docread.specs.Kept.{common, less}
use Rattle.alta_docread.specs.Solutions.{found_list}
use Rattle.alta_compile.specs.Space.{Placed, list_of, ends_of}
use Rattle.alta_machine.specs.Plans.{FoundTree, Tree, found, all_of, any_of, without, Trees, no_more, also}

-- the ends of documents that a plan finds in a space: of the solutions over the ends and the list of each test the
-- first places, what all parts have, what some part has, the ends that the part does not have
abbrev mutual
  pub plan_list : List Placed → Tree → List ℕ
  plan_list space (found f) = found_list (ends_of space ∷ map (list_of space) f.tests) f.bounds
  plan_list space (all_of ts) = common (plan_lists space ts)
  plan_list space (any_of ts) = union_of (plan_lists space ts)
  plan_list space (without t) = less (ends_of space) (plan_list space t)

  pub plan_lists : List Placed → Trees → List (List ℕ)
  plan_lists space no_more = []
  plan_lists space (also t ts) = plan_list space t ∷ plan_lists space ts
