-- The tree of a plan.
use Rattle.alta_machine.specs.Plans.{Tree, found, all_of, any_of, without, trees_of}
use Rattle.alta_compile.specs.declared.plan.Plan.{Plan, fold-Plan}
use Rattle.alta_compile.specs.declared.plan.Plan.TheOpen.{Plan-F}

-- one level, with each plan inside already seen as its tree
abbrev pub tree_step : Plan-F Tree → Tree
tree_step (Plan-F.Found f) = found f
tree_step (Plan-F.AllOf v) = all_of (trees_of v.items)
tree_step (Plan-F.AnyOf v) = any_of (trees_of v.items)
tree_step (Plan-F.Without p) = without p.value

abbrev pub tree : Plan → Tree
tree = fold-Plan Tree tree_step
